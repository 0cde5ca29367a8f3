use Rattle.std.proofs.Common.{ℕ, List, drop, ap}
use Rattle.bmc_core.proofs.IpmbFrames.{compared}
use Rattle.bmc_core.proofs.ipmb_port.in_frame.Goals as goal

pub new-requires : goal.new-requires
new-requires c = ap (λ (xs : List ℕ). drop 1 xs) (compared _ c.args.bytes.now c.requires)
