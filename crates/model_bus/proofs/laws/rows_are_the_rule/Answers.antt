use Rattle.model_bus.proofs.laws.rows_are_the_rule.Goals as goal
use Rattle.model_bus.proofs.WindowRows.{rows_64, rows_32, windows_apart}

pub returns-clause-ipmb : goal.returns-clause-ipmb
returns-clause-ipmb c = rows_64

pub returns-clause-smbus : goal.returns-clause-smbus
returns-clause-smbus c = rows_32

pub returns-clause-apart : goal.returns-clause-apart
returns-clause-apart c = windows_apart
