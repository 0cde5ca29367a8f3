use Rattle.std.proofs.Common.{ℕ, inl, inr, refl, subst}
use Rattle.app_change.specs.Ends.{ChangesBy}
use Rattle.app_change.proofs.changing.look_first.Goals as goal

pub returns-in-Ok-clause-ends : goal.returns-in-Ok-clause-ends
returns-in-Ok-clause-ends g c =
    inl (
      c.in-Ok.kept.named.plan,
      c.in-Ok.ensures.kept,
      subst (λ (steps : ℕ). ChangesBy g.W.Write.contents g.E.Write.contents g.F.TextFiles g.F.WritesFiles c.in-Ok.kept.named.plan steps c.args.words.now c.args.files.now
          c.change_by.new.files c.args.console.now c.change_by.new.console c.change_by.result) c.len-steps.ensures.value c.change_by.ensures.ends,
    )

pub returns-in-Err-clause-ends : goal.returns-in-Err-clause-ends
returns-in-Err-clause-ends g c = inr (c.in-Err.why, c.in-Err.ensures.fault, refl, c.say_unlooked.ensures)
