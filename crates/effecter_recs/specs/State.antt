-- The present states of a state effecter, as a kind of record (DSP0248). A value has a byte for each field.
use Rattle.std.specs.Prelude.{◌≡◌, ℕ, ◌+◌, ◌*◌, ◌≤◌, List, [], ◌∷◌, ◌++◌, drop, take, length, slice_index, Bool, nat_le, not, ◌&&◌, ◌||◌, ◌==◌, IsTrue, if◌then◌else◌, Result, Ok, Err, Option, Some, None, refl}
use Rattle.std.specs.List.{list_any, list_all}
use Rattle.two_wire.specs.Codes.{pldm_invalid_data, pldm_invalid_state}
use Rattle.record_base.specs.declared.key.Key.{Key}
use Rattle.record_base.specs.declared.key.Key.TheVariants as key
use Rattle.record_base.specs.declared.op.Op.{Op}
use Rattle.record_base.specs.declared.op.Op.TheVariants as op
use Rattle.record_base.specs.declared.field_changes.FieldChange.{FieldChange}
use Rattle.record_base.specs.declared.state_effecter.StateEffecter.{StateEffecter}
use Rattle.record_base.specs.declared.state_effecter.SetStateEffecter.{SetStateEffecter}
use Rattle.record_base.specs.BoardSizes.{most_state_fields}
use Rattle.record_base.specs.StateEffecter.{are_states}
use Rattle.record_base.specs.Kind.{KindWords, RecordWords}
use Rattle.record_base.specs.AllKinds.{Place}
use Rattle.effecter_recs.specs.Requests.{effecter_request, id_bytes, id_in, operational_state}
use Rattle.effecter_recs.specs.FieldChanges.{is_set, is_choice, is_plain_change, ChangesStates, changed_states, change_bytes, changes_of, shown_fields, shown_states, are_enabled, undo_changes}
use Rattle.effecter_recs.specs.ChangeLaws.{nine_taken, few_undone}

-- the Set command and the Get command
abbrev pub set_state_effecter_states : ℕ
set_state_effecter_states = 0x39

abbrev pub get_state_effecter_states : ℕ
get_state_effecter_states = 0x3A

-- ---- what a Set makes

-- an effecter takes one change for each of its fields. The change leaves the field, or sets the field to a state that it can be in. No
-- change sets a field of a disabled effecter.
pub record SetsStates (effecter : StateEffecter) (op : SetStateEffecter) (old new : List ℕ) : Type 0 where
  pub many : length op.changes ≡ length effecter.fields
  pub choices : IsTrue (list_all is_choice op.changes)
  pub enabled : IsTrue (effecter.enabled || not (list_any is_set op.changes))
  pub is_new : ChangesStates op.changes old new
  pub allowed : IsTrue (are_states effecter.fields new)

-- the request fits the effecter, apart from the states that it names
abbrev pub fits_effecter : StateEffecter → List FieldChange → Bool
fits_effecter effecter changes = (length changes == length effecter.fields) && (list_all is_choice changes && (effecter.enabled || not (list_any is_set changes)))

-- the new value, or the code of the first refusal: any other fault of any field comes before any state that a field can't be in
abbrev pub state_outcome : StateEffecter → SetStateEffecter → List ℕ → Result (List ℕ) ℕ
state_outcome effecter op old =
    if fits_effecter effecter op.changes
    then (if are_states effecter.fields (changed_states op.changes old) then Ok (changed_states op.changes old) else Err pldm_invalid_state)
    else Err pldm_invalid_data

-- ---- requests and replies

-- the data of the request that carries out the operation
abbrev pub state_body : SetStateEffecter → List ℕ
state_body op = id_bytes op.effecter ++ length op.changes ∷ change_bytes op.changes

-- the operation with these data: 9 changes stand for more
abbrev pub state_effecter_in : List ℕ → SetStateEffecter
state_effecter_in body = record { effecter = id_in body; changes = take 9 (changes_of (drop 3 body)); few = nine_taken (changes_of (drop 3 body)) }

-- the Get reply: the number of fields, and each field
abbrev pub state_view : StateEffecter → List ℕ → List ℕ
state_view effecter value = length value ∷ shown_fields (operational_state effecter.enabled) value

-- a Get reply, of one field or more
pub record IsStateReply (reply : List ℕ) : Type 0 where
  pub some : 1 ≤ slice_index reply 0
  pub few : slice_index reply 0 ≤ most_state_fields
  pub whole : length reply ≡ 1 + 3 * slice_index reply 0

abbrev pub is_state_reply : List ℕ → Bool
is_state_reply reply = nat_le 1 (slice_index reply 0) && (nat_le (slice_index reply 0) most_state_fields && (length reply == 1 + 3 * slice_index reply 0))

-- the test that the data are a Get reply in which each field that the operation sets is enabled
abbrev pub is_undoable : SetStateEffecter → List ℕ → Bool
is_undoable op reply = is_state_reply reply && are_enabled op.changes (drop 1 reply)

-- the operation that sets the same fields to the present states of the reply
abbrev pub undo_states : SetStateEffecter → List ℕ → SetStateEffecter
undo_states op reply = record { effecter = op.effecter; changes = undo_changes op.changes (drop 1 reply); few = few_undone op.changes (drop 1 reply) op.few }

-- ---- the kind

abbrev pub words : KindWords ℕ SetStateEffecter
words = record {
  name = key.StateEffecter;
  key_of = λ op. op.effecter;
  get_asked = λ id. effecter_request get_state_effecter_states (id_bytes id);
  set_data = state_body;
  set_asked = λ op. effecter_request set_state_effecter_states (state_body op);
  -- the Set reply has no data
  set_reply = λ op. [];
  next_live = λ op live. live;
  is_reply = λ op reply. IsStateReply reply;
  -- the reply shows each field that the operation sets as enabled
  restorable = λ op reply. IsTrue (are_enabled op.changes (drop 1 reply));
  inverse = λ op reply. if is_undoable op reply then Some (undo_states op reply) else None;
  -- the state of a field that is left is ignored
  is_plain = λ op. IsTrue (list_all is_plain_change op.changes);
}

abbrev pub record_words : StateEffecter → RecordWords ℕ SetStateEffecter
record_words effecter = record {
  is_of = λ id. Unit {0};
  valid = λ value. IsTrue (are_states effecter.fields value);
  sets = λ op old new. SetsStates effecter op old new;
  outcome = state_outcome effecter;
  view = λ value live. state_view effecter value;
  -- all of the Get reply but the operational states is configuration
  conf = λ reply. take 1 reply ++ shown_states (drop 1 reply);
  shown = λ value. value;
}

abbrev own_key : (k : Key) → Option ((own : ℕ) × (k ≡ words.name own))
own_key (key.StateEffecter id) = Some (id, refl)
own_key _ = None

abbrev own_op : (o : Op) → Option ((own : SetStateEffecter) × (o ≡ op.StateEffecter own))
own_op (op.StateEffecter o) = Some (o, refl)
own_op _ = None

abbrev pub place : Place words
place = record {
  op = op.StateEffecter;
  own_key = own_key;
  own_op = own_op;
  finds_key = λ own. refl;
  finds_op = λ o. refl;
}
