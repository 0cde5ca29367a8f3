use Rattle.std.proofs.Common.{◌≡◌, ℕ, ◌<◌, ◌==◌, false, get_or, []}
use Rattle.record_base.specs.Sdr.{sdr_id}
use Rattle.sensor_recs.proofs.sdr.place_of_id.Given as goal

abbrev pub invariant-loop-place : goal.invariant-loop-place
invariant-loop-place l = (k : ℕ) → k < l.place → (sdr_id (get_or l.records k []) == l.id) ≡ false
