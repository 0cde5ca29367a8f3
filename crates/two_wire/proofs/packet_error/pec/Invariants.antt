use Rattle.std.proofs.Common.{◌≡◌, ℕ, ◌<◌, length, get_or}
use Rattle.two_wire.proofs.PacketError.{left_of}
use Rattle.two_wire.proofs.packet_error.pec.Given as goal

abbrev pub invariant-loop-left : goal.invariant-loop-left
invariant-loop-left l = record {
  same : left_of l.code l.left ≡ left_of 0 l.fn.bytes;
  bytes : (i : ℕ) → get_or l.left i 0 < 256;
}

abbrev pub decreases-loop-left : goal.decreases-loop-left
decreases-loop-left l = length l.left
