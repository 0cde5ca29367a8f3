use Rattle.std.proofs.Common.{◌≡◌, ◌≤◌, ◌↔◌, drop, length}
use Rattle.bmc_shared.specs.Replay.{calls_of}
use Rattle.bmc_shared.proofs.history.are_calls.Given as goal

-- what is left to compare says the same as all
abbrev pub invariant-loop-place : goal.invariant-loop-place
invariant-loop-place l =
    (l.found ≤ length l.calls.items) × (l.found ≤ l.place)
    × ((calls_of l.seat l.events.items ≡ l.calls.items) ↔ (calls_of l.seat (drop l.place l.events.items) ≡ drop l.found l.calls.items))
