use Rattle.bmc_core.proofs.IpmbLists.{heard_then_answered}
use Rattle.bmc_core.proofs.ipmb_port.laws.a_request_is_heard_and_then_answered.Goals as goal

pub returns : goal.returns
returns c = heard_then_answered
