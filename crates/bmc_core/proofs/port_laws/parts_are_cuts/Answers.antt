use Rattle.bmc_core.proofs.Parts.{parts_are_cuts}
use Rattle.bmc_core.proofs.port_laws.parts_are_cuts.Goals as goal

pub returns : goal.returns
returns c = parts_are_cuts
