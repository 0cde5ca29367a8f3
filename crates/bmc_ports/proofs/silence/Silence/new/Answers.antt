use Rattle.std.proofs.lemmas.List.{get_or-replicate}
use Rattle.bmc_ports.proofs.silence.Silence.new.Goals as goal

pub returns : goal.returns
returns c = λ who within. get_or-replicate 256 who 0 0 within
