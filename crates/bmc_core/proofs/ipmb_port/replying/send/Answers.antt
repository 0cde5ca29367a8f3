use Rattle.bmc_core.proofs.OwnBytes.{is_own}
use Rattle.bmc_core.proofs.ipmb_port.replying.send.Goals as goal

pub returns-clause-read : goal.returns-clause-read
returns-clause-read c = is_own _ _ c.write_response_into.ensures
