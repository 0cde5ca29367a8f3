use Rattle.bmc_core.proofs.IpmbHearing.{one_heard}
use Rattle.bmc_core.proofs.ipmb_port.laws.one_thing_is_heard.Goals as goal

pub returns : goal.returns
returns c = one_heard
