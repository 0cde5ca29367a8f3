use Rattle.std.proofs.Common.{◌≡◌, [], take}
use Rattle.std.specs.List.{filter}
use Rattle.mctp_net.specs.Places.{is_at}
use Rattle.mctp_net.proofs.place.place_of.Given as goal

abbrev pub invariant-loop-number : goal.invariant-loop-number
invariant-loop-number l = filter (λ s. is_at s.name l.name) (take l.number l.places) ≡ []
