use Rattle.std.proofs.Common.{subst}
use Rattle.bmc_core.specs.declared.port.Port.{Port}
use Rattle.bmc_core.specs.Port.{Represents}
use Rattle.bmc_core.proofs.port.Port.idle.Goals as goal

pub returns-in-Ipmb-clause-keeps : goal.returns-in-Ipmb-clause-keeps
returns-in-Ipmb-clause-keeps c p shows = c.idle.ensures.keeps p (subst (λ (x : Port). Represents x p) c.in-Ipmb.is shows)

pub returns-in-Smbus-clause-keeps : goal.returns-in-Smbus-clause-keeps
returns-in-Smbus-clause-keeps c p shows = c.idle-in-Smbus.ensures.keeps p (subst (λ (x : Port). Represents x p) c.in-Smbus.is shows)
