-- What is foreseen of a sensor's hysteresis.
use Rattle.std.proofs.Common.{refl}
use Rattle.sensor_recs.specs.Hysteresis.{words, record_words}
use Rattle.sensor_recs.specs.HysteresisLaws.{record_laws}
use Rattle.shown_records.specs.Sensors.{after_hysteresis}
use Rattle.shown_records.proofs.Foreseen.{IsForeseen, whole_foreseen}

pub foreseen : IsForeseen words record_words after_hysteresis
foreseen = whole_foreseen words record_words after_hysteresis record_laws (λ value. refl) (λ op old new live is_valid done. done)
