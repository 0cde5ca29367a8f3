-- The value of a BIOS attribute, as a kind of record (DSP0247). A value has the bytes that a value entry has behind the type.
use Rattle.std.specs.Prelude.{◌≡◌, ℕ, ◌==◌, ◌&&◌, nat_le, nat_lt, not, List, ◌∷◌, ◌++◌, drop, length, slice_index, Bool, true, false, IsTrue, if◌then◌else◌, is_some, Option, Some, None, Result, Ok, Err, refl}
use Rattle.two_wire.specs.Codes.{pldm_invalid_data, pldm_invalid_length, pldm_invalid_attribute}
use Rattle.record_base.specs.declared.key.Key.{Key}
use Rattle.record_base.specs.declared.key.Key.TheVariants as key
use Rattle.record_base.specs.declared.op.Op.{Op}
use Rattle.record_base.specs.declared.op.Op.TheVariants as op
use Rattle.record_base.specs.Kind.{KindWords, RecordWords}
use Rattle.record_base.specs.AllKinds.{Place}
use Rattle.record_base.specs.Requests.{pldm_request, byte_at}
use Rattle.record_base.specs.declared.attribute_value.AttributeValue.{AttributeValue}
use Rattle.record_base.specs.declared.attribute_value.AttributeValue.TheVariants.{Indexes, Text, Number}
use Rattle.bios_attr.specs.declared.value_entry.ValueEntry.{ValueEntry}
use Rattle.bios_attr.specs.declared.bios_attribute.AttributeLimits.{AttributeLimits}
use Rattle.bios_attr.specs.declared.bios_attribute.AskedPart.{AskedPart}
use Rattle.bios_attr.specs.declared.bios_attribute.AskedPart.TheVariants.{First, Later}
use Rattle.record_base.specs.declared.bios_attribute.SetBiosAttribute.{SetBiosAttribute}
use Rattle.record_base.specs.AttributeSizes.{most_indexes, most_text, before_value}
use Rattle.record_base.specs.AttributeValue.{two_bytes, number_of, value_in}
use Rattle.bios_attr.specs.ValueEntry.{shown_type, entry_in}
use Rattle.record_base.specs.BiosAttribute.{setting}
pub use Rattle.bios_attr.specs.EntryParts.{bios, set_current_value, get_current_value, start_and_end, get_first_part, get_next_part, no_handle, transfer_handle}
use Rattle.bios_attr.specs.EntryParts.{least_set, before_part, first_body}
use Rattle.record_base.specs.AttributeRange.{type_of, IsValue, is_allowed}

-- ---- what a Set makes

-- an attribute that can be set takes a value of its type that it can have, whatever the old one is
pub record SetsAttribute (limits : AttributeLimits) (op : SetBiosAttribute) (new : List ℕ) : Type 0 where
  pub own : op.attribute ≡ limits.handle
  pub of_type : op.attribute_type ≡ type_of limits.range
  pub can_be_set : limits.read_only ≡ false
  pub is_new : new ≡ op.value
  pub is_value : IsValue limits.range new

-- the operation is of the attribute's type, and this can be set
abbrev pub is_settable : AttributeLimits → SetBiosAttribute → Bool
is_settable limits op = (op.attribute_type == type_of limits.range) && not limits.read_only

-- the value that the operation's bytes are
abbrev pub value_given : AttributeLimits → SetBiosAttribute → Option AttributeValue
value_given limits op = value_in (type_of limits.range) op.value

-- the new value, or the first code that refuses it: another attribute, another type or an attribute that can only be read, another
-- length, a value that it can't have
abbrev pub attribute_outcome : AttributeLimits → SetBiosAttribute → Result (List ℕ) ℕ
attribute_outcome limits op =
    if op.attribute == limits.handle
    then (if is_settable limits op
    then (if is_some (value_given limits op)
    then (if is_allowed limits.range (value_given limits op) then Ok op.value else Err pldm_invalid_data)
    else Err pldm_invalid_length)
    else Err pldm_invalid_data)
    else Err pldm_invalid_attribute

-- ---- requests and replies

-- an operation's entry
abbrev pub op_entry : SetBiosAttribute → List ℕ
op_entry op = two_bytes op.attribute ++ op.attribute_type ∷ op.value

-- the data of the request that carries out the operation: any handle, the flag, and the entry
abbrev pub attribute_body : SetBiosAttribute → List ℕ
attribute_body op = no_handle ++ start_and_end ∷ op_entry op

-- the operation in such data: too short first, then another flag, then too short for an entry
abbrev pub attribute_in : List ℕ → Result SetBiosAttribute ℕ
attribute_in body =
    if nat_lt (length body) least_set then Err pldm_invalid_length
    else (if not (byte_at body 4 == start_and_end) then Err pldm_invalid_data
    else (if nat_lt (length body) before_value then Err pldm_invalid_length
    else Ok (setting (number_of (byte_at body 5) (byte_at body 6)) (byte_at body 7) (drop before_value body))))

-- the part of an attribute's entry that the data of a Get ask for: another transfer operation is refused
abbrev pub attribute_shown_in : List ℕ → Result AskedPart ℕ
attribute_shown_in body =
    if byte_at body 4 == get_first_part then Ok (First (number_of (byte_at body 5) (byte_at body 6)))
    else (if byte_at body 4 == get_next_part then Ok (Later (number_of (byte_at body 5) (byte_at body 6)) (transfer_handle body))
    else Err pldm_invalid_data)

-- the Get reply: no further part, the flag, and the entry
abbrev pub attribute_view : AttributeLimits → List ℕ → List ℕ
attribute_view limits value = no_handle ++ start_and_end ∷ (two_bytes limits.handle ++ shown_type limits.read_only (type_of limits.range) ∷ value)

-- the value is within the limits of all attributes
abbrev pub is_within : AttributeValue → Bool
is_within (Indexes indexes) = nat_le 1 (length indexes) && nat_le (length indexes) most_indexes
is_within (Text text) = nat_le (length text) most_text
is_within (Number n) = true

-- the entry's value is
abbrev pub is_entry_within : Option ValueEntry → Bool
is_entry_within (Some entry) = is_within entry.value
is_entry_within None = false

-- a Get reply: four bytes, the flag, and a value entry
pub record IsAttributeReply (reply : List ℕ) : Type 0 where
  pub flagged : slice_index reply 4 ≡ start_and_end
  pub holds_entry : IsTrue (is_entry_within (entry_in (drop before_part reply)))

-- the test of this
abbrev pub is_attribute_reply : List ℕ → Bool
is_attribute_reply reply = (slice_index reply 4 == start_and_end) && is_entry_within (entry_in (drop before_part reply))

-- the operation that sets what the reply shows: its whole entry
abbrev pub undo_attribute : List ℕ → SetBiosAttribute
undo_attribute reply = setting (number_of (slice_index reply 5) (slice_index reply 6)) (slice_index reply 7) (drop before_value reply)

-- ---- the kind

abbrev pub words : KindWords ℕ SetBiosAttribute
words = record {
  name = key.BiosAttribute;
  key_of = λ op. op.attribute;
  get_asked = λ handle. pldm_request bios get_current_value (no_handle ++ get_first_part ∷ two_bytes handle);
  set_data = attribute_body;
  -- the first part, where the entry goes in parts
  set_asked = λ op. pldm_request bios set_current_value (first_body (attribute_body op));
  -- no further part is asked for
  set_reply = λ op. no_handle;
  next_live = λ op live. live;
  is_reply = λ op reply. IsAttributeReply reply;
  -- from each reply
  restorable = λ op reply. Unit {0};
  inverse = λ op reply. if is_attribute_reply reply then Some (undo_attribute reply) else None;
  -- no bit is ignored
  is_plain = λ op. Unit {0};
}

abbrev pub record_words : AttributeLimits → RecordWords ℕ SetBiosAttribute
record_words limits = record {
  is_of = λ handle. handle ≡ limits.handle;
  valid = IsValue limits.range;
  sets = λ op old new. SetsAttribute limits op new;
  outcome = λ op old. attribute_outcome limits op;
  -- all of the Get reply is configuration
  view = λ value live. attribute_view limits value;
  conf = λ reply. reply;
  shown = λ value. value;
}

abbrev own_key : (k : Key) → Option ((own : ℕ) × (k ≡ words.name own))
own_key (key.BiosAttribute handle) = Some (handle, refl)
own_key _ = None

abbrev own_op : (o : Op) → Option ((own : SetBiosAttribute) × (o ≡ op.BiosAttribute own))
own_op (op.BiosAttribute o) = Some (o, refl)
own_op _ = None

abbrev pub place : Place words
place = record {
  op = op.BiosAttribute;
  own_key = own_key;
  own_op = own_op;
  finds_key = λ own. refl;
  finds_op = λ o. refl;
}
