use Rattle.model_bus.proofs.laws.requests_are_carried_at_most_once.Goals as goal
use Rattle.model_bus.proofs.WholeMessages.{ipmb_always, smbus_always}

pub returns-clause-ipmb : goal.returns-clause-ipmb
returns-clause-ipmb c = ipmb_always

pub returns-clause-smbus : goal.returns-clause-smbus
returns-clause-smbus c = smbus_always
