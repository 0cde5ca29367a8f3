use Rattle.std.proofs.Common.{take}
use Rattle.mctp_net.specs.Cut.{AreWritten}
use Rattle.mctp_net.specs.Pieces.{pieces_of}
use Rattle.mctp_net.proofs.splitting.write_each.Given as goal

abbrev pub invariant-loop-number : goal.invariant-loop-number
invariant-loop-number l = AreWritten (pieces_of l.message l.number) (take l.number l.frames)
