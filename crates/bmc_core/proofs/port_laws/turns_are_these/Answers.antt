use Rattle.bmc_core.proofs.Turning.{turns_by}
use Rattle.bmc_core.proofs.port_laws.turns_are_these.Goals as goal

pub returns : goal.returns
returns c = turns_by
