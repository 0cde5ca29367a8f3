use Rattle.std.proofs.Common.{refl}
use Rattle.model_bus.proofs.examples.greetings_count_from_the_next.Goals as goal

pub returns-clause-constants : goal.returns-clause-constants
returns-clause-constants c = (refl, refl)

pub returns-clause-counted : goal.returns-clause-counted
returns-clause-counted c = (refl, refl)

pub returns-clause-late : goal.returns-clause-late
returns-clause-late c = (refl, refl)
