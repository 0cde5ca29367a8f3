-- The kind EventEnable, and its place among all kinds.
use Rattle.std.specs.Prelude.{ℕ}
use Rattle.record_base.specs.declared.event_enable.SetEventEnable.{SetEventEnable}
use Rattle.record_base.specs.Kind.{Kind}
use Rattle.record_base.specs.Member.{Member}
use Rattle.record_base.specs.Reader.{Reader}
use Rattle.record_base.specs.Requests.{byte_at}
use Rattle.sensor_recs.specs.declared.event_enable.EventEnableLimits.{EventEnableLimits}
use Rattle.sensor_recs.specs.EventEnable.{event_enable_in, words, record_words, place}
use Rattle.sensor_recs.specs.EventEnableLaws.{kind_laws, record_laws}

-- the words and the laws of the kind
abbrev pub kind : Kind ℕ SetEventEnable EventEnableLimits
kind = record { words = words; record_words = λ limits. record_words limits.supported; kind_laws = kind_laws; record_laws = λ limits. record_laws limits.supported }

-- the kind, and its place among all kinds
abbrev pub member : Member ℕ SetEventEnable EventEnableLimits
member = record { kind = kind; place = place }

-- the record and the operation that the data of the commands name
abbrev pub reader : Reader
reader = record { key_in = λ body. words.name (byte_at body 0); op_in = λ body. place.op (event_enable_in body) }
