-- The kind GlobalEnables, and its place among all kinds.
use Rattle.record_base.specs.declared.global_enables.SetGlobalEnables.{SetGlobalEnables}
use Rattle.record_base.specs.Kind.{Kind}
use Rattle.record_base.specs.Member.{Member}
use Rattle.record_base.specs.Reader.{Reader}
use Rattle.watch_boot.specs.declared.global_enables.GlobalEnablesLimits.{GlobalEnablesLimits}
use Rattle.watch_boot.specs.GlobalEnables.{enables_in, words, record_words, place}
use Rattle.watch_boot.specs.GlobalEnablesLaws.{kind_laws, record_laws}

-- the words and the laws of the kind
abbrev pub kind : Kind (Unit {0}) SetGlobalEnables GlobalEnablesLimits
kind = record { words = words; record_words = λ limits. record_words; kind_laws = kind_laws; record_laws = λ limits. record_laws }

-- the kind, and its place among all kinds
abbrev pub member : Member (Unit {0}) SetGlobalEnables GlobalEnablesLimits
member = record { kind = kind; place = place }

-- the record and the operation that the data of the commands name
abbrev pub reader : Reader
reader = record { key_in = λ body. words.name tt; op_in = λ body. place.op (enables_in body) }
