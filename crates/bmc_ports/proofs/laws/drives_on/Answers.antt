use Rattle.bmc_ports.proofs.Halves.{drives_on}
use Rattle.bmc_ports.proofs.laws.drives_on.Goals as goal

pub returns : goal.returns
returns c = drives_on
