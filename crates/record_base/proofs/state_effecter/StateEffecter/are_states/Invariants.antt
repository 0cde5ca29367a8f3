use Rattle.std.proofs.Common.{◌≡◌, drop}
use Rattle.record_base.specs.StateEffecter.{are_states}
use Rattle.record_base.proofs.state_effecter.StateEffecter.are_states.Given as goal

abbrev pub invariant-loop-place : goal.invariant-loop-place
invariant-loop-place l = are_states l.fields l.value ≡ are_states (drop l.place l.fields) (drop l.place l.value)
