use Rattle.std.proofs.Common.{Bool, Option, String, Global, Ok, inr, subst}
use Rattle.std.specs.declared.alloc.AllocError.{AllocError}
use Rattle.app_journal.specs.Claiming.{IsFreeAt}
use Rattle.app_apply.specs.Guard.{PutsOwnAside}
use Rattle.app_revert.proofs.leaving.make_room.Goals as goal

pub returns-in-Some : goal.returns-in-Some
returns-in-Some g c =
    let put = subst (λ (found : Option (String Global)). PutsOwnAside {Refused = AllocError} g.F.WritesFiles c.args.word.now (Ok found) c.args.files.now c.put_aside.new.files) c.in-Some.is
    c.in_ok-_name.ensures in
    inr (
      subst (λ (free : Bool). IsFreeAt (g.F.WritesFiles.leads c.args.files.now) c.args.word.now free) c.if-branch.false c.in_ok-is_free.ensures,
      c.in-Some._name,
      put,
    )
