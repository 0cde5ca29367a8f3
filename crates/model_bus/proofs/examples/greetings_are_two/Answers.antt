use Rattle.std.proofs.Common.{refl}
use Rattle.model_bus.proofs.examples.greetings_are_two.Goals as goal
use Rattle.model_bus.proofs.Greeting.{singles_clear}

pub returns-clause-one : goal.returns-clause-one
returns-clause-one c = (refl, refl)

pub returns-clause-both : goal.returns-clause-both
returns-clause-both c = (refl, refl)

pub returns-clause-half : goal.returns-clause-half
returns-clause-half c = (refl, refl, refl, refl)

pub returns-clause-tags : goal.returns-clause-tags
returns-clause-tags c = (refl, refl, refl)

pub returns-clause-clear : goal.returns-clause-clear
returns-clause-clear c = singles_clear
