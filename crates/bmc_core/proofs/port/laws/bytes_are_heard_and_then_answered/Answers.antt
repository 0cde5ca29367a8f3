use Rattle.bmc_core.proofs.PortSteps.{heard_then_answered}
use Rattle.bmc_core.proofs.port.laws.bytes_are_heard_and_then_answered.Goals as goal

pub returns : goal.returns
returns c = heard_then_answered
