-- The kind NumericEffecter, and its place among all kinds.
use Rattle.std.specs.Prelude.{ℕ}
use Rattle.record_base.specs.declared.numeric_effecter.SetNumericEffecter.{SetNumericEffecter}
use Rattle.record_base.specs.Kind.{Kind}
use Rattle.record_base.specs.Member.{Member}
use Rattle.record_base.specs.Reader.{Reader}
use Rattle.effecter_recs.specs.Requests.{id_in}
use Rattle.effecter_recs.specs.declared.numeric.NumericLimits.{NumericLimits}
use Rattle.effecter_recs.specs.Numeric.{numeric_effecter_in, words, record_words, place}
use Rattle.effecter_recs.specs.NumericLaws.{kind_laws, record_laws}

-- the words and the laws of the kind
abbrev pub kind : Kind ℕ SetNumericEffecter NumericLimits
kind = record { words = words; record_words = record_words; kind_laws = kind_laws; record_laws = record_laws }

-- the kind, and its place among all kinds
abbrev pub member : Member ℕ SetNumericEffecter NumericLimits
member = record { kind = kind; place = place }

-- the record and the operation that the data of the commands name
abbrev pub reader : Reader
reader = record { key_in = λ body. words.name (id_in body); op_in = λ body. place.op (numeric_effecter_in body) }
