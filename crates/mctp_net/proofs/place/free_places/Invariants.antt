use Rattle.std.proofs.Common.{◌≡◌, ◌≤◌, replicate}
use Rattle.std.specs.Vec.{vec_capacity}
use Rattle.mctp_net.specs.Places.{free_place}
use Rattle.mctp_net.proofs.place.free_places.Given as goal

abbrev pub invariant-loop : goal.invariant-loop
invariant-loop l = (l.places.items ≡ replicate l.counter free_place) × (8 ≤ vec_capacity l.places)
