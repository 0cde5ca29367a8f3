-- The laws of an operation and of the limits of a record, from the laws of the kind.
use Rattle.std.proofs.Common.{◌≡◌, subst}
use Rattle.std.specs.Option.{IsSome}
use Rattle.record_base.specs.declared.key.Key.{Key}
use Rattle.record_base.specs.declared.op.Op.{Op}
use Rattle.record_base.specs.declared.message.Asked.{Asked}
use Rattle.record_base.specs.Kind.{RecordLaws}
use Rattle.record_base.specs.AllKinds.{OpWords, any_words, OpLaws}
use Rattle.record_base.specs.Member.{Member, op_words_of}
use Rattle.record_base.specs.MemberLaws.{op_laws_of, record_laws_of}
use Rattle.record_kinds.specs.Own.{OwnOp, OwnLimits, record_words_in}
use Rattle.record_kinds.specs.Own.{op_of, limits_of}

-- the operation is the given operation, and `op_words` gives the kind's words for each operation of the kind
abbrev pub IsOwnOp : OwnOp → (Op → OpWords) → Op → Type 1
IsOwnOp (op_of member own) op_words any = (member.place.op own ≡ any) × ((o : _) → op_words (member.place.op o) ≡ op_words_of member o)

-- `op_words` gives the kind's words for each of its operations, and `asked` the kind's request for each of its records
pub record IsSaid {K O L : Type 0} (member : Member K O L) (op_words : Op → OpWords) (asked : Key → Asked) : Type 1 where
  pub says : (own : O) → op_words (member.place.op own) ≡ op_words_of member own
  pub asks : (own : K) → asked (member.kind.words.name own) ≡ member.kind.words.get_asked own
  -- each operation on a record of the kind is an operation of the kind
  pub op_there : (any : Op) → IsSome (member.place.own_key (op_words any).key) → IsSome (member.place.own_op any)

-- `op_words` and `asked` agree with the kind of the limits
abbrev pub AreSaid : OwnLimits → (Op → OpWords) → (Key → Asked) → Type 1
AreSaid (limits_of member own) op_words asked = IsSaid member op_words asked

-- the laws of the operation
pub op_laws_by : (at : OwnOp) (op_words : Op → OpWords) (any : Op) → IsOwnOp at op_words any → OpLaws op_words any
op_laws_by (op_of member own) op_words any is = subst (λ (o : Op). OpLaws op_words o) is.0 (op_laws_of member op_words is.1 own)

-- the laws of a record with the limits
pub record_laws_by : (at : OwnLimits) (op_words : Op → OpWords) (asked : Key → Asked) → AreSaid at op_words asked → RecordLaws (any_words op_words asked) (record_words_in at)
record_laws_by (limits_of member own) op_words asked are = record_laws_of member op_words asked are.says are.asks are.op_there own
