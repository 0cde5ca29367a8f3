-- A kind among all kinds: its keys and operations, and its words, extended to any key and any operation.
use Rattle.std.specs.Prelude.{◌≡◌, ◌≤◌, ◌↔◌, ℕ, List, length, Option, Some, None, Result, Err, refl}
use Rattle.std.specs.Option.{IsSome, option_map}
use Rattle.two_wire.specs.Codes.{invalid_data_field}
use Rattle.record_base.specs.declared.key.Key.{Key}
use Rattle.record_base.specs.declared.op.Op.{Op}
use Rattle.record_base.specs.declared.live.Live.{Live}
use Rattle.record_base.specs.declared.message.Asked.{Asked}
use Rattle.record_base.specs.Meaning.{room_for}
use Rattle.record_base.specs.Kind.{KindWords, RecordWords}

-- the place of a kind among all kinds: its operations are some of all operations, and the names of its records some of all keys
pub record Place {K O : Type 0} (words : KindWords K O) : Type 0 where
  -- an operation of the kind, among all operations
  pub op : O → Op
  -- the kind's record with this name, if the kind has such a record
  pub own_key : (key : Key) → Option ((own : K) × (key ≡ words.name own))
  -- the kind's operation that equals this one, if the kind has such an operation
  pub own_op : (any : Op) → Option ((own : O) × (any ≡ op own))
  -- the name of each record of the kind finds the record
  pub finds_key : (own : K) → own_key (words.name own) ≡ Some (own, refl)
  -- each operation of the kind finds itself
  pub finds_op : (own : O) → own_op (op own) ≡ Some (own, refl)

-- ---- operations of any kind

-- a kind's words for one operation, under the names of `KindWords`
pub record OpWords : Type 1 where
  -- the name of the record that the operation changes
  pub key : Key
  pub set_data : List ℕ
  pub set_asked : Asked
  pub set_reply : List ℕ
  pub next_live : Live → Live
  pub is_reply : List ℕ → Type 0
  pub restorable : List ℕ → Type 0
  pub inverse : List ℕ → Option Op
  pub is_plain : Type 0

-- a kind's words for its operation. The inverse stands among all operations.
abbrev pub words_as : {K O : Type 0} → KindWords K O → (O → Op) → O → OpWords
words_as words as_op op = record {
  key = words.name (words.key_of op);
  set_data = words.set_data op;
  set_asked = words.set_asked op;
  set_reply = words.set_reply op;
  next_live = words.next_live op;
  is_reply = words.is_reply op;
  restorable = words.restorable op;
  inverse = λ reply. option_map as_op (words.inverse op reply);
  is_plain = words.is_plain op;
}

-- the kind to which every record belongs, from the words for each operation and the request that gets each record
abbrev pub any_words : (Op → OpWords) → (Key → Asked) → KindWords Key Op
any_words op_words asked = record {
  name = λ key. key;
  key_of = λ op. (op_words op).key;
  get_asked = asked;
  set_data = λ op. (op_words op).set_data;
  set_asked = λ op. (op_words op).set_asked;
  set_reply = λ op. (op_words op).set_reply;
  next_live = λ op. (op_words op).next_live;
  is_reply = λ op. (op_words op).is_reply;
  restorable = λ op. (op_words op).restorable;
  inverse = λ op. (op_words op).inverse;
  is_plain = λ op. (op_words op).is_plain;
}

-- the laws of the words for one operation, under the names of `KindLaws`
pub record OpLaws (op_words : Op → OpWords) (op : Op) : Type 0 where
  pub set_short : length (op_words op).set_reply ≤ room_for (op_words op).set_asked
  pub invertible : (reply : List ℕ) → IsSome ((op_words op).inverse reply) ↔ ((op_words op).is_reply reply × (op_words op).restorable reply)
  pub plain : (made : Op) (reply : List ℕ) → (op_words op).inverse reply ≡ Some made → (op_words made).is_plain

-- ---- a record of one kind

-- the record may have the key. The key must name a record of the kind.
abbrev pub is_of_own : {K O : Type 0} {Holds : K → Type 0} → Option ((own : K) × Holds own) → RecordWords K O → Type 0
is_of_own (Some own) record_words = record_words.is_of own.0
is_of_own None record_words = ⊥

-- the record accepts the operation. The operation must be one of the kind.
abbrev pub sets_own : {K O : Type 0} {Holds : O → Type 0} → Option ((own : O) × Holds own) → RecordWords K O → List ℕ → List ℕ → Type 0
sets_own (Some own) record_words old new = record_words.sets own.0 old new
sets_own None record_words old new = ⊥

-- the outcome of the operation. No caller reaches the code: every caller of `RecordKind::apply` gives an operation on the record, and
-- such an operation is one of the kind.
abbrev pub outcome_own : {K O : Type 0} {Holds : O → Type 0} → Option ((own : O) × Holds own) → RecordWords K O → List ℕ → Result (List ℕ) ℕ
outcome_own (Some own) record_words old = record_words.outcome own.0 old
outcome_own None record_words old = Err invalid_data_field

-- a kind's words for its record, extended to any key and any operation
abbrev pub lifted : {K O : Type 0} {words : KindWords K O} → Place words → RecordWords K O → RecordWords Key Op
lifted place record_words = record {
  is_of = λ key. is_of_own (place.own_key key) record_words;
  valid = record_words.valid;
  sets = λ op. sets_own (place.own_op op) record_words;
  outcome = λ op. outcome_own (place.own_op op) record_words;
  view = record_words.view;
  conf = record_words.conf;
  shown = record_words.shown;
}
