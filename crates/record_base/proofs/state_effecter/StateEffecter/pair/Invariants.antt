use Rattle.std.proofs.Common.{◌≡◌, take}
use Rattle.record_base.specs.StateEffecter.{state_value}
use Rattle.record_base.proofs.state_effecter.StateEffecter.pair.Given as goal

abbrev pub invariant-loop-field : goal.invariant-loop-field
invariant-loop-field l = l.value ≡ state_value (take l.field-index l.self.fields)
