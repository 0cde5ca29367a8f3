use Rattle.model_bus.specs.Numbering.{ipmb, smbus}
use Rattle.model_bus.proofs.NumberLaws.{ipmb_numbers, smbus_numbers, ipmb_greeting, smbus_greeting}
use Rattle.model_bus.proofs.laws.greeting_is_a_fresh_start.Goals as goal
use Rattle.model_bus.proofs.Greeting.{greeting_forgets}

pub returns-clause-ipmb : goal.returns-clause-ipmb
returns-clause-ipmb c manager controller first = greeting_forgets (ipmb manager controller first) (ipmb_numbers manager controller first) 64 (ipmb_greeting manager controller first)

pub returns-clause-smbus : goal.returns-clause-smbus
returns-clause-smbus c manager controller first = greeting_forgets (smbus manager controller first) (smbus_numbers manager controller first) 32 (smbus_greeting manager controller first)
