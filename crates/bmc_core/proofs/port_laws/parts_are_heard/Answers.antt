use Rattle.bmc_core.proofs.Parts.{parts_are_heard}
use Rattle.bmc_core.proofs.port_laws.parts_are_heard.Goals as goal

pub returns : goal.returns
returns c = parts_are_heard
