use Rattle.model_bus.proofs.laws.only_requests_take_windows.Goals as goal
use Rattle.model_bus.proofs.Strangers.{reads_requests, others_ask}

pub returns-clause-read : goal.returns-clause-read
returns-clause-read c = reads_requests

pub returns-clause-packets : goal.returns-clause-packets
returns-clause-packets c = others_ask
