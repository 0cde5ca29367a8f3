use Rattle.std.specs.Prelude.{Err}
use Rattle.std.proofs.Common.{false, inl, inr, refl}
use Rattle.app_run.specs.Ends.{PrintsNothing}
use Rattle.app_run.proofs.Telling.{says_memory}
use Rattle.app_change.proofs.changing.apply_or_none.Goals as goal

pub returns-in-Ok-clause-ends : goal.returns-in-Ok-clause-ends
returns-in-Ok-clause-ends g c = (
  c.apply_over-told.result.halted,
  c.apply_over-told.new.files,
  c.apply_over-told.new.console,
  c.apply_over-told.result.status,
  c.in-Ok.back,
  c.apply_over-told.ensures.ends,
  c.in-Ok.ensures,
  c.go_back.ensures.ends,
)

pub returns-in-Err-clause-ends : goal.returns-in-Err-clause-ends
returns-in-Err-clause-ends g c =
    let words = c.args.words.now in (
      false,
      c.args.files.now,
      c.end_run.new.console,
      c.end_run.result,
      record { file = words.file; reach = words.reach; json = words.json },
      (
        Err c.in-Err.field-0,
        refl,
        inr (c.in-Err.field-0, refl, refl),
        says_memory g.W.Write.contents g.E.Write.contents PrintsNothing c.args.console.now c.end_run.new.console c.end_run.result c.end_run.ensures,
      ),
      record { file = refl; reach = refl; json = refl },
      inl (refl, refl, refl, refl),
    )
