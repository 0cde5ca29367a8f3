use Rattle.bmc_core.proofs.SmbusLists.{carries_the_rule}
use Rattle.bmc_core.proofs.smbus_port.laws.what_is_heard_is_carried_out_by_the_rule.Goals as goal

pub returns : goal.returns
returns c = carries_the_rule
