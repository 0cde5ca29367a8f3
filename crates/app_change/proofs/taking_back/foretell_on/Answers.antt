use Rattle.std.proofs.Common.{inl, inr}
use Rattle.app_change.proofs.taking_back.foretell_on.Goals as goal

pub returns-in-Ok : goal.returns-in-Ok
returns-in-Ok g c = inl (c.in-Ok.manager, c.in-Ok.ensures.manager, c.say_on.ensures)

pub returns-in-Err : goal.returns-in-Err
returns-in-Err g c = inr (c.in-Err.unfit, c.in-Err.ensures.fault, c.say_refused.ensures)
