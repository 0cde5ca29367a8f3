use Rattle.std.proofs.Common.{ℕ, List, Option, Ok, inl, inr, refl, subst}
use Rattle.std.specs.declared.alloc.AllocError.{AllocError}
use Rattle.app_journal.specs.declared.undo_files.UndoFiles.{UndoFiles}
use Rattle.app_apply.specs.Guard.{HoldsOwn, StandsOwn}
use Rattle.app_apply.proofs.guarding.take_file.Goals as goal

pub returns-in-Ok : goal.returns-in-Ok
returns-in-Ok g c =
    inl (
      c.in-Some.beside,
      c.hold_own.new.files,
      c.in-Ok.standing,
      subst (λ (found : Option UndoFiles). HoldsOwn {Refused = AllocError} g.F.WritesFiles c.args.word.now (Ok found) c.args.files.now c.hold_own.new.files) c.in-Some.is
          c.in_ok-beside.ensures,
      subst (λ (word : List ℕ). StandsOwn (g.F.TextFiles.gives c.hold_own.new.files) (g.F.WritesFiles.leads c.hold_own.new.files) word c.in-Ok.standing) c.as_str.ensures.value
          c.in-Ok.ensures,
      c.guard_held.ensures,
    )

pub returns-in-Err : goal.returns-in-Err
returns-in-Err g c =
    inr (inr (
      c.in-Err.why,
      refl,
      inr (
        c.in-Some.beside,
        subst (λ (found : Option UndoFiles). HoldsOwn {Refused = AllocError} g.F.WritesFiles c.args.word.now (Ok found) c.args.files.now c.hold_own.new.files) c.in-Some.is
            c.in_ok-beside.ensures,
      ),
    ))
