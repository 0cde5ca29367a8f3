use Rattle.std.specs.Prelude.{Result}
use Rattle.std.proofs.Common.{◌∙◌, ℕ, List, Ok, Err, inr, refl, subst}
use Rattle.std.specs.declared.alloc.AllocError.{AllocError}
use Rattle.app_journal.specs.declared.files.WriteFault.{WriteFault}
use Rattle.app_revert.specs.Revert.{PutsDone}
use Rattle.app_revert.proofs.Reverts.{undone_by}
use Rattle.app_revert.proofs.leaving.finish_undone.Goals as goal

pub returns-in-Ok-Ok : goal.returns-in-Ok-Ok
returns-in-Ok-Ok g c =
    undone_by g.F.WritesFiles c.args.beside.now c.args.list.now c.in_ok-empty.empty c.put_list.result c.args.files.now c.put_done.new.files c.put_list.new.files c.in_ok-empty.ensures
    (subst (λ (text : List ℕ). PutsDone g.F.WritesFiles c.args.beside.now {Refused = AllocError} text (Ok (Ok tt)) c.args.files.now c.put_done.new.files)
    (c.as_str.ensures.value ∙ c.in_ok-text.ensures.text)
    (subst (λ (answer : Result (Unit {0}) WriteFault). PutsDone g.F.WritesFiles c.args.beside.now {Refused = AllocError} c.as_str.result.now (Ok answer) c.args.files.now c.put_done.new.files)
    c.in-Ok-Ok.field-0-is c.in-Ok-Ok.ensures))
    c.put_list.ensures.put c.put_list.ensures.memory

pub returns-in-Ok-Err : goal.returns-in-Ok-Err
returns-in-Ok-Err g c =
    inr (
      c.in-Ok-Err.why,
      subst (λ (text : List ℕ). PutsDone g.F.WritesFiles c.args.beside.now {Refused = AllocError} text (Ok (Err c.in-Ok-Err.why)) c.args.files.now c.put_done.new.files)
          (c.as_str.ensures.value ∙ c.in_ok-text.ensures.text)
          (subst (λ (answer : Result (Unit {0}) WriteFault). PutsDone g.F.WritesFiles c.args.beside.now {Refused = AllocError} c.as_str.result.now (Ok answer) c.args.files.now
          c.put_done.new.files) c.in-Ok-Err.field-0-is c.in-Ok-Err.ensures),
      refl,
    )
