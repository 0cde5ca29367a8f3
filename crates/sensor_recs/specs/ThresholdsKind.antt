-- The kind Thresholds, and its place among all kinds.
use Rattle.std.specs.Prelude.{ℕ}
use Rattle.record_base.specs.declared.thresholds.SetThresholds.{SetThresholds}
use Rattle.record_base.specs.Kind.{Kind}
use Rattle.record_base.specs.Member.{Member}
use Rattle.record_base.specs.Reader.{Reader}
use Rattle.record_base.specs.Requests.{byte_at}
use Rattle.sensor_recs.specs.declared.thresholds.ThresholdLimits.{ThresholdLimits}
use Rattle.sensor_recs.specs.Thresholds.{thresholds_in, words, record_words, place}
use Rattle.sensor_recs.specs.ThresholdsLaws.{kind_laws, record_laws}

-- the words and the laws of the kind
abbrev pub kind : Kind ℕ SetThresholds ThresholdLimits
kind = record { words = words; record_words = λ limits. record_words limits.masks; kind_laws = kind_laws; record_laws = λ limits. record_laws limits.masks }

-- the kind, and its place among all kinds
abbrev pub member : Member ℕ SetThresholds ThresholdLimits
member = record { kind = kind; place = place }

-- the record and the operation that the data of the commands name
abbrev pub reader : Reader
reader = record { key_in = λ body. words.name (byte_at body 0); op_in = λ body. place.op (thresholds_in body) }
