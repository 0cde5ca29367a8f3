use Rattle.std.proofs.Common.{◌≡◌, length}
use Rattle.mctp_net.proofs.splitting.keep.Given as goal

abbrev pub invariant-loop-have : goal.invariant-loop-have
invariant-loop-have l = length l.frames.items ≡ l._have
