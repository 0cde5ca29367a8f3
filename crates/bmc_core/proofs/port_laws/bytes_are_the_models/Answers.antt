use Rattle.bmc_core.proofs.Spelling.{are_the_models}
use Rattle.bmc_core.proofs.port_laws.bytes_are_the_models.Goals as goal

pub returns : goal.returns
returns c = are_the_models
