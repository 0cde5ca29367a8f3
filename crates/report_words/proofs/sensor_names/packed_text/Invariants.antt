use Rattle.std.proofs.Common.{◌≡◌, length}
use Rattle.report_words.specs.SensorNames.{packed_text}
use Rattle.report_words.proofs.sensor_names.packed_text.Given as goal

abbrev pub invariant-loop-place : goal.invariant-loop-place
invariant-loop-place l = record { text : l.text ≡ packed_text l.bytes l.place; few : length l.text ≡ l.place }
