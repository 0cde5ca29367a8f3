-- A kind among all kinds: record_kinds takes one such value from each kind.
use Rattle.record_base.specs.declared.key.Key.{Key}
use Rattle.record_base.specs.declared.op.Op.{Op}
use Rattle.record_base.specs.Kind.{RecordWords, Kind}
use Rattle.record_base.specs.AllKinds.{Place, OpWords, words_as, lifted}

-- a kind, and its place among all kinds
pub record Member (K O L : Type 0) : Type 1 where
  pub kind : Kind K O L
  pub place : Place kind.words

-- the kind's words for one operation
abbrev pub op_words_of : {K O L : Type 0} → Member K O L → O → OpWords
op_words_of member = words_as member.kind.words member.place.op

-- the kind's words for a record with these limits, extended to any key and any operation
abbrev pub record_words_of : {K O L : Type 0} → Member K O L → L → RecordWords Key Op
record_words_of member limits = lifted member.place (member.kind.record_words limits)
