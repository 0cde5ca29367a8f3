use Rattle.model_bus.proofs.laws.events_have_effects.Goals as goal
use Rattle.model_bus.proofs.WholeMessages.{ipmb_effects, smbus_effects}

pub returns-clause-ipmb : goal.returns-clause-ipmb
returns-clause-ipmb c = ipmb_effects

pub returns-clause-smbus : goal.returns-clause-smbus
returns-clause-smbus c = smbus_effects
