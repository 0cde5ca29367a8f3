-- The present value of a numeric effecter, as a kind of record (DSP0248). A value has the bytes of one number of the effecter's size, the
-- low byte first.
use Rattle.std.specs.Prelude.{◌≡◌, ℕ, ◌+◌, ◌*◌, ◌≤◌, List, [], ◌∷◌, ◌++◌, drop, take, length, slice_index, Bool, ◌&&◌, ◌==◌, nat_le, IsTrue, if◌then◌else◌, Result, Ok, Err, Option, Some, None, refl}
use Rattle.two_wire.specs.Codes.{pldm_invalid_data, pldm_invalid_length}
use Rattle.record_base.specs.declared.key.Key.{Key}
use Rattle.record_base.specs.declared.key.Key.TheVariants as key
use Rattle.record_base.specs.declared.op.Op.{Op}
use Rattle.record_base.specs.declared.op.Op.TheVariants as op
use Rattle.record_base.specs.declared.numeric_effecter.NumericBytes.{NumericBytes}
use Rattle.record_base.specs.declared.numeric_effecter.NumericBytes.TheVariants.{One, Two, Four, Other}
use Rattle.record_base.specs.declared.numeric_effecter.SetNumericEffecter.{SetNumericEffecter}
use Rattle.record_base.specs.NumericSize.{code_of, width_of}
use Rattle.record_base.specs.NumericEffecter.{IsNumeric, is_numeric}
use Rattle.record_base.specs.Kind.{KindWords, RecordWords}
use Rattle.record_base.specs.AllKinds.{Place}
use Rattle.record_base.specs.Requests.{byte_at}
use Rattle.effecter_recs.specs.declared.numeric.NumericLimits.{NumericLimits}
use Rattle.effecter_recs.specs.Requests.{effecter_request, id_bytes, id_in, enabled_state, operational_state}

-- the Set command and the Get command
abbrev pub set_numeric_effecter_value : ℕ
set_numeric_effecter_value = 0x31

abbrev pub get_numeric_effecter_value : ℕ
get_numeric_effecter_value = 0x32

-- ---- the bytes of an operation's value

-- the bytes of an operation's value. Three bytes 00h stand for bytes that are as many as no size has.
abbrev pub value_bytes : NumericBytes → List ℕ
value_bytes (One only) = only ∷ []
value_bytes (Two low high) = low ∷ high ∷ []
value_bytes (Four first second third fourth) = first ∷ second ∷ third ∷ fourth ∷ []
value_bytes Other = 0 ∷ 0 ∷ 0 ∷ []

-- the value of these bytes
abbrev pub value_of : List ℕ → NumericBytes
value_of (only ∷ []) = One only
value_of (low ∷ high ∷ []) = Two low high
value_of (first ∷ second ∷ third ∷ fourth ∷ []) = Four first second third fourth
value_of _ = Other

-- ---- what a Set makes

-- an enabled effecter takes any number of its size within its bounds
pub record SetsNumeric (limits : NumericLimits) (op : SetNumericEffecter) (new : List ℕ) : Type 0 where
  pub enabled : IsTrue limits.enabled
  pub of_size : op.size ≡ code_of limits.range.size
  pub is_new : new ≡ value_bytes op.value
  pub is_value : IsNumeric limits.range new

-- the effecter takes these bytes, which have its size
abbrev pub is_accepted : NumericLimits → List ℕ → Bool
is_accepted limits bytes = limits.enabled && is_numeric limits.range bytes

-- the new value, or the code of the first refusal: another size comes first, then a wrong length
abbrev pub numeric_outcome : NumericLimits → SetNumericEffecter → Result (List ℕ) ℕ
numeric_outcome limits op =
    if op.size == code_of limits.range.size
    then (if length (value_bytes op.value) == width_of limits.range.size
    then (if is_accepted limits (value_bytes op.value) then Ok (value_bytes op.value) else Err pldm_invalid_data)
    else Err pldm_invalid_length)
    else Err pldm_invalid_data

-- ---- requests and replies

-- the data of the request that carries out the operation
abbrev pub numeric_body : SetNumericEffecter → List ℕ
numeric_body op = id_bytes op.effecter ++ op.size ∷ value_bytes op.value

-- the operation with these data
abbrev pub numeric_effecter_in : List ℕ → SetNumericEffecter
numeric_effecter_in body = record { effecter = id_in body; size = byte_at body 2; value = value_of (drop 3 body) }

-- the Get reply: the size, the operational state, and the value twice, as the pending and as the present one
abbrev pub numeric_view : NumericLimits → List ℕ → List ℕ
numeric_view limits value = code_of limits.range.size ∷ operational_state limits.enabled ∷ value ++ value

-- how many bytes a number of the size with this code has
abbrev pub said_width : ℕ → ℕ
said_width code = if nat_le code 1 then 1 else (if nat_le code 3 then 2 else 4)

-- a Get reply, by its size
pub record IsNumericReply (reply : List ℕ) : Type 0 where
  pub known : slice_index reply 0 ≤ 5
  pub whole : length reply ≡ 2 + 2 * said_width (slice_index reply 0)

-- the present value in a Get reply, behind the size, the operational state and the pending value
abbrev pub present_in : List ℕ → List ℕ
present_in reply = drop (said_width (slice_index reply 0)) (drop 2 reply)

-- the test that the data are a Get reply of an enabled effecter
abbrev pub is_enabled_reply : List ℕ → Bool
is_enabled_reply reply = nat_le (slice_index reply 0) 5 && ((length reply == 2 + 2 * said_width (slice_index reply 0)) && (slice_index reply 1 == enabled_state))

-- the operation that sets the present value of the reply, of the reply's size
abbrev pub undo_numeric : SetNumericEffecter → List ℕ → SetNumericEffecter
undo_numeric op reply = record { effecter = op.effecter; size = slice_index reply 0; value = value_of (present_in reply) }

-- ---- the kind

abbrev pub words : KindWords ℕ SetNumericEffecter
words = record {
  name = key.NumericEffecter;
  key_of = λ op. op.effecter;
  get_asked = λ id. effecter_request get_numeric_effecter_value (id_bytes id);
  set_data = numeric_body;
  set_asked = λ op. effecter_request set_numeric_effecter_value (numeric_body op);
  -- the Set reply has no data
  set_reply = λ op. [];
  next_live = λ op live. live;
  is_reply = λ op reply. IsNumericReply reply;
  -- where the reply says that the effecter is enabled
  restorable = λ op reply. slice_index reply 1 ≡ enabled_state;
  inverse = λ op reply. if is_enabled_reply reply then Some (undo_numeric op reply) else None;
  -- no bit is ignored
  is_plain = λ op. Unit {0};
}

abbrev pub record_words : NumericLimits → RecordWords ℕ SetNumericEffecter
record_words limits = record {
  is_of = λ id. Unit {0};
  valid = IsNumeric limits.range;
  sets = λ op old new. SetsNumeric limits op new;
  outcome = λ op old. numeric_outcome limits op;
  view = λ value live. numeric_view limits value;
  -- all of the Get reply but the operational state is configuration
  conf = λ reply. take 1 reply ++ drop 2 reply;
  shown = λ value. value;
}

abbrev own_key : (k : Key) → Option ((own : ℕ) × (k ≡ words.name own))
own_key (key.NumericEffecter id) = Some (id, refl)
own_key _ = None

abbrev own_op : (o : Op) → Option ((own : SetNumericEffecter) × (o ≡ op.NumericEffecter own))
own_op (op.NumericEffecter o) = Some (o, refl)
own_op _ = None

abbrev pub place : Place words
place = record {
  op = op.NumericEffecter;
  own_key = own_key;
  own_op = own_op;
  finds_key = λ own. refl;
  finds_op = λ o. refl;
}
