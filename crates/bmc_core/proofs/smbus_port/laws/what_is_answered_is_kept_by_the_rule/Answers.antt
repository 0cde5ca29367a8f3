use Rattle.bmc_core.proofs.SmbusLists.{keeps_the_rule}
use Rattle.bmc_core.proofs.smbus_port.laws.what_is_answered_is_kept_by_the_rule.Goals as goal

pub returns : goal.returns
returns c = keeps_the_rule
