-- The kind Hysteresis, and its place among all kinds.
use Rattle.std.specs.Prelude.{ℕ}
use Rattle.record_base.specs.declared.hysteresis.SetHysteresis.{SetHysteresis}
use Rattle.record_base.specs.Kind.{Kind}
use Rattle.record_base.specs.Member.{Member}
use Rattle.record_base.specs.Reader.{Reader}
use Rattle.record_base.specs.Requests.{byte_at}
use Rattle.sensor_recs.specs.declared.hysteresis.HysteresisLimits.{HysteresisLimits}
use Rattle.sensor_recs.specs.Hysteresis.{hysteresis_in, words, record_words, place}
use Rattle.sensor_recs.specs.HysteresisLaws.{kind_laws, record_laws}

-- the words and the laws of the kind
abbrev pub kind : Kind ℕ SetHysteresis HysteresisLimits
kind = record { words = words; record_words = λ limits. record_words; kind_laws = kind_laws; record_laws = λ limits. record_laws }

-- the kind, and its place among all kinds
abbrev pub member : Member ℕ SetHysteresis HysteresisLimits
member = record { kind = kind; place = place }

-- the record and the operation that the data of the commands name
abbrev pub reader : Reader
reader = record { key_in = λ body. words.name (byte_at body 0); op_in = λ body. place.op (hysteresis_in body) }
