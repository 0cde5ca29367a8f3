-- What sets a sensor's hysteresis to what its Get shows.
use Rattle.std.proofs.Common.{length, ◌==◌, Some, None, if◌then◌else◌, refl, ap}
use Rattle.sensor_recs.specs.Hysteresis.{undo_hysteresis, words, record_words}
use Rattle.sensor_recs.specs.HysteresisLaws.{record_laws}
use Rattle.shown_records.specs.Probes.{probe_hysteresis}
use Rattle.shown_records.proofs.SetBack.{IsSetBack, any_values, set_back_by}

pub set_back : IsSetBack words record_words (λ sensor shown. probe_hysteresis sensor) any_values
set_back =
    set_back_by words record_words record_laws _ (λ sensor reply. length reply == 2) (λ sensor reply. undo_hysteresis (probe_hysteresis sensor) reply) (λ sensor reply. refl)
    (λ sensor reply holds. ap (λ b. if b then Some (undo_hysteresis (probe_hysteresis sensor) reply) else None) holds) (λ sensor reply one other made holds done. done)
