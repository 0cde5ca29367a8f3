-- An operation with its kind, and the limits of a record with the record's kind.
use Rattle.record_base.specs.declared.key.Key.{Key}
use Rattle.record_base.specs.declared.op.Op.{Op}
use Rattle.record_base.specs.Kind.{RecordWords}
use Rattle.record_base.specs.AllKinds.{OpWords}
use Rattle.record_base.specs.Member.{Member, op_words_of, record_words_of}

-- a kind, and an operation of it
pub data OwnOp : Type 1 where
  op_of : {K O L : Type 0} → Member K O L → O → OwnOp

-- a kind, and the limits of a record of it
pub data OwnLimits : Type 1 where
  limits_of : {K O L : Type 0} → Member K O L → L → OwnLimits

-- the kind's words for the operation
abbrev pub words_of : OwnOp → OpWords
words_of (op_of member own) = op_words_of member own

-- the kind's words for a record with these limits, extended to any key and any operation
abbrev pub record_words_in : OwnLimits → RecordWords Key Op
record_words_in (limits_of member own) = record_words_of member own
