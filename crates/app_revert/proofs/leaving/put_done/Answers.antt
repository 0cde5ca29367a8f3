use Rattle.std.specs.Prelude.{Result}
use Rattle.std.proofs.Common.{ℕ, List, Ok, Err, inl, inr, refl, subst}
use Rattle.std.specs.declared.alloc.AllocError.{AllocError}
use Rattle.app_journal.specs.declared.files.WriteFault.{WriteFault}
use Rattle.app_revert.specs.Revert.{MakesRoom}
use Rattle.app_revert.proofs.leaving.put_done.Goals as goal

pub returns-in-Ok : goal.returns-in-Ok
returns-in-Ok g c = (
  c.in_ok-done.done,
  c.in_ok-done.ensures,
  inl (
    c.make_room.new.files,
    subst (λ (word : List ℕ). MakesRoom {Refused = AllocError} g.F.WritesFiles word (Ok (Ok tt)) c.args.files.now c.make_room.new.files) c.as_str.ensures.value
        (subst (λ (answer : Result (Unit {0}) WriteFault). MakesRoom {Refused = AllocError} g.F.WritesFiles c.as_str.result.now (Ok answer) c.args.files.now c.make_room.new.files) c.in-Ok.is
        c.in_ok-make_room.ensures),
    c.put.ensures,
  ),
)

pub returns : goal.returns
returns g c = (
  c.in_ok-done.done,
  c.in_ok-done.ensures,
  inr (
    c.in-Err.why,
    subst (λ (word : List ℕ). MakesRoom {Refused = AllocError} g.F.WritesFiles word (Ok (Err c.in-Err.why)) c.args.files.now c.make_room.new.files) c.as_str.ensures.value
        (subst (λ (answer : Result (Unit {0}) WriteFault). MakesRoom {Refused = AllocError} g.F.WritesFiles c.as_str.result.now (Ok answer) c.args.files.now c.make_room.new.files) c.in-Err.is
        c.in_ok-make_room.ensures),
    refl,
  ),
)
