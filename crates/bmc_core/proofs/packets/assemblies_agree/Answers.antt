use Rattle.bmc_core.proofs.PacketSteps.{takes-agrees}
use Rattle.bmc_core.proofs.Waiting.{waits-alike}
use Rattle.bmc_core.proofs.WholeBytes.{whole-bytes}
use Rattle.bmc_core.proofs.packets.assemblies_agree.Goals as goal

pub returns-clause-step : goal.returns-clause-step
returns-clause-step c = takes-agrees

pub returns-clause-waits : goal.returns-clause-waits
returns-clause-waits c = waits-alike

pub returns-clause-whole : goal.returns-clause-whole
returns-clause-whole c = whole-bytes
