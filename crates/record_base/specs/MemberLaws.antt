-- The laws of a kind among all kinds. `op_words` must give the kind's words for each of its operations, and `asked` the kind's request
-- for each of its records.
use Rattle.std.specs.Prelude.{◌≡◌}
use Rattle.std.specs.Option.{IsSome}
use Rattle.record_base.specs.declared.key.Key.{Key}
use Rattle.record_base.specs.declared.op.Op.{Op}
use Rattle.record_base.specs.declared.message.Asked.{Asked}
use Rattle.record_base.specs.Kind.{RecordLaws}
use Rattle.record_base.specs.AllKinds.{OpWords, any_words, OpLaws}
use Rattle.record_base.specs.AllKindsLaws.{own_op_laws, lifted_laws}
use Rattle.record_base.specs.Member.{Member, op_words_of, record_words_of}

-- the laws of each of the kind's operations
pub op_laws_of : {K O L : Type 0} (member : Member K O L) (op_words : Op → OpWords) → ((own : O) → op_words (member.place.op own) ≡ op_words_of member own) → (own : O) → OpLaws op_words (member.place.op own)
op_laws_of member op_words agrees own = own_op_laws member.kind.words member.place op_words agrees member.kind.kind_laws own

-- the laws of each of the kind's records. Each operation on such a record must be an operation of the kind.
pub record_laws_of : {K O L : Type 0} (member : Member K O L) (op_words : Op → OpWords) (asked : Key → Asked)
    → ((own : O) → op_words (member.place.op own) ≡ op_words_of member own) → ((own : K) → asked (member.kind.words.name own) ≡ member.kind.words.get_asked own)
    → ((any : Op) → IsSome (member.place.own_key (op_words any).key) → IsSome (member.place.own_op any)) → (limits : L) → RecordLaws (any_words op_words asked) (record_words_of member limits)
record_laws_of member op_words asked agrees asks op_there limits = lifted_laws member.kind.words member.place op_words agrees asked asks op_there (member.kind.record_words limits) (member.kind.record_laws limits)
