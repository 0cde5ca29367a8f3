use Rattle.std.proofs.Common.{inl, inr, refl}
use Rattle.app_revert.proofs.reverting.revert_by.Goals as goal

pub returns-in-Ok-clause-ends : goal.returns-in-Ok-clause-ends
returns-in-Ok-clause-ends g c = inl (c.args.standing, c.in-Ok.manager, c.requires, c.in-Ok.ensures.manager, c.revert_over.ensures.ends)

pub returns-in-Err-clause-ends : goal.returns-in-Err-clause-ends
returns-in-Err-clause-ends g c = inr (refl, inl (c.in-Err.unfit, c.in-Err.ensures.fault, c.say_refused.ensures))
