use Rattle.std.proofs.Common.{inl, inr, refl}
use Rattle.app_run.proofs.greeting.greet_both.Goals as goal

pub returns-in-Some : goal.returns-in-Some
returns-in-Some g c = inl (c.in-Some.unanswered, refl, c.in-Some.ensures, refl)

pub returns-in-None : goal.returns-in-None
returns-in-None g c = inr (c.in-None.ensures, c.greet_bus-in-None.ensures)
