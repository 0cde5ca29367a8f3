-- The kind StateEffecter, and its place among all kinds. The limits of a record are its effecter, which the board file has.
use Rattle.std.specs.Prelude.{ℕ}
use Rattle.record_base.specs.declared.state_effecter.StateEffecter.{StateEffecter}
use Rattle.record_base.specs.declared.state_effecter.SetStateEffecter.{SetStateEffecter}
use Rattle.record_base.specs.Kind.{Kind}
use Rattle.record_base.specs.Member.{Member}
use Rattle.record_base.specs.Reader.{Reader}
use Rattle.effecter_recs.specs.Requests.{id_in}
use Rattle.effecter_recs.specs.State.{state_effecter_in, words, record_words, place}
use Rattle.effecter_recs.specs.StateLaws.{kind_laws, record_laws}

-- the words and the laws of the kind
abbrev pub kind : Kind ℕ SetStateEffecter StateEffecter
kind = record { words = words; record_words = record_words; kind_laws = kind_laws; record_laws = record_laws }

-- the kind, and its place among all kinds
abbrev pub member : Member ℕ SetStateEffecter StateEffecter
member = record { kind = kind; place = place }

-- the record and the operation that the data of the commands name
abbrev pub reader : Reader
reader = record { key_in = λ body. words.name (id_in body); op_in = λ body. place.op (state_effecter_in body) }
