use Rattle.bmc_core.proofs.IpmbLists.{carries_the_rule}
use Rattle.bmc_core.proofs.ipmb_port.laws.what_is_heard_is_carried_out_by_the_rule.Goals as goal

pub returns : goal.returns
returns c = carries_the_rule
