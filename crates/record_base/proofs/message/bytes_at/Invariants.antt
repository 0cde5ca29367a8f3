use Rattle.std.proofs.Common.{◌≡◌, length, take}
use Rattle.record_base.specs.Requests.{bytes_at}
use Rattle.record_base.proofs.message.bytes_at.Given as goal

-- so many bytes are copied
abbrev pub invariant-loop-i : goal.invariant-loop-i
invariant-loop-i g l = (length l.bytes ≡ g.row.N) × (take l.i l.bytes ≡ bytes_at l.i l.body l.place)
