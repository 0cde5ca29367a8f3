use Rattle.std.proofs.Common.{false, refl, lit<}
use Rattle.record_base.specs.Sensor.EventEnable.{are_within}
use Rattle.record_base.specs.EventLaws.{tested_events}
use Rattle.record_base.specs.Sensor.Thresholds.{is_clear, is_in_order}
use Rattle.record_base.specs.ThresholdLaws.{tests_pass}
use Rattle.cfg_records.proofs.sample.fan.Goals as goal

pub invariant_of-result-2 : goal.invariant_of-result-2
unfolding is_clear is_in_order
invariant_of-result-2 c = record { valid = tests_pass _ _ refl refl refl }

pub invariant_of-result-3 : goal.invariant_of-result-3
unfolding are_within
invariant_of-result-3 c = record { twelve = lit< tt; valid = tested_events 0xFC0 false false (record { assertions = 0; deassertions = 0 }) refl refl }
