use Rattle.std.proofs.Common.{◌≡◌, ◌≤◌, None, length}
use Rattle.std.specs.List.{All, AllWithin}
use Rattle.mctp_net.proofs.place.close_all.Given as goal

abbrev pub invariant-loop-place : goal.invariant-loop-place
invariant-loop-place l = (length l.places.items ≡ length l.initial.places.items) × AllWithin (λ s. s.name ≡ None) l.places.items 0 l.place × All (λ s. length s.bytes ≤ 256) l.places.items
