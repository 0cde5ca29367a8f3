-- Which events of a sensor are enabled, as a kind of record (IPMI 2.0).
use Rattle.std.specs.Prelude.{◌≡◌, ℕ, ◌+◌, ◌/◌, ◌%◌, ◌<◌, List, [], ◌∷◌, length, slice_index, bit_and, bit_or, bit_xor, ◌||◌, ◌&&◌, ◌==◌, not, Bool, true, false, if◌then◌else◌, Result, Ok, Err, Option, Some, None, refl, ◌*◌}
use Rattle.two_wire.specs.Codes.{invalid_data_field}
use Rattle.record_base.specs.declared.key.Key.{Key}
use Rattle.record_base.specs.declared.key.Key.TheVariants as key
use Rattle.record_base.specs.declared.op.Op.{Op}
use Rattle.record_base.specs.declared.op.Op.TheVariants as op
use Rattle.record_base.specs.declared.event_enable.EventMasks.{EventMasks}
use Rattle.record_base.specs.declared.event_enable.EventChange.{EventChange}
use Rattle.record_base.specs.declared.event_enable.EventChange.TheVariants.{Leave, Enable, Disable, Reserved}
use Rattle.record_base.specs.declared.event_enable.SetEventEnable.{SetEventEnable}
use Rattle.record_base.specs.Kind.{KindWords, RecordWords}
use Rattle.record_base.specs.AllKinds.{Place}
use Rattle.record_base.specs.Masks.{has}
use Rattle.record_base.specs.Requests.{byte_at}
use Rattle.record_base.specs.Sensor.EventEnable.{AreWithin, are_within, flags_byte, makes_messages, is_scanning, event_value, enabled_in, IsEventValue, IsEventEnable}
use Rattle.sensor_recs.specs.Requests.{sensor_request}

-- the Set command and the Get command
abbrev pub set_sensor_event_enable : ℕ
set_sensor_event_enable = 0x28

abbrev pub get_sensor_event_enable : ℕ
get_sensor_event_enable = 0x29

-- ---- what a Set makes

-- the set has the events of both sets, and no others
abbrev pub IsUnion : ℕ → ℕ → ℕ → Type 0
IsUnion old more new = (offset : ℕ) → offset < 16 → has new offset ≡ (has old offset || has more offset)

-- the set has the events of the first set that the second set hasn't, and no others
abbrev pub IsDifference : ℕ → ℕ → ℕ → Type 0
IsDifference old less new = (offset : ℕ) → offset < 16 → has new offset ≡ (has old offset && not (has less offset))

-- both sets have the same events
abbrev pub IsSame : ℕ → ℕ → Type 0
IsSame old new = (offset : ℕ) → offset < 16 → has new offset ≡ has old offset

-- the sensor supports each event, asserted or deasserted
pub record AreSupported (supported : ℕ) (masks : EventMasks) : Type 0 where
  pub assertions : AreWithin masks.assertions supported
  pub deassertions : AreWithin masks.deassertions supported

-- the enabled events after a change: the old events, with the operation's events besides, or without them
abbrev pub ChangesMasks : ℕ → EventChange → EventMasks → EventMasks → Type 0
ChangesMasks supported Leave old new = IsSame old.assertions new.assertions × IsSame old.deassertions new.deassertions
ChangesMasks supported (Enable more) old new =
    AreSupported supported more × IsUnion old.assertions more.assertions new.assertions × IsUnion old.deassertions more.deassertions new.deassertions
ChangesMasks supported (Disable less) old new =
    AreSupported supported less × IsDifference old.assertions less.assertions new.assertions × IsDifference old.deassertions less.deassertions new.deassertions
ChangesMasks supported Reserved old new = ⊥

-- the flags become the operation's, and the enabled events change as it says
pub record SetsEventEnable (supported : ℕ) (op : SetEventEnable) (old new : List ℕ) : Type 0 where
  pub is_value : IsEventValue new
  pub messages : makes_messages (slice_index new 0) ≡ op.messages
  pub scanning : is_scanning (slice_index new 0) ≡ op.scanning
  pub events : ChangesMasks supported op.change (enabled_in old) (enabled_in new)

-- ---- the same as functions

-- the events of the first set that the second set hasn't, and the events of both sets
abbrev pub difference : ℕ → ℕ → ℕ
difference events others = bit_xor events (bit_and events others)

abbrev pub both_masks : (ℕ → ℕ → ℕ) → EventMasks → EventMasks → EventMasks
both_masks of first second = record { assertions = of first.assertions second.assertions; deassertions = of first.deassertions second.deassertions }

-- the enabled events after a change
abbrev pub events_after : EventChange → EventMasks → EventMasks
events_after (Enable more) old = both_masks bit_or old more
events_after (Disable less) old = both_masks difference old less
events_after _ old = old

-- the sensor takes the change
abbrev pub is_accepted : ℕ → EventChange → Bool
is_accepted supported Leave = true
is_accepted supported (Enable more) = are_within more.assertions supported && are_within more.deassertions supported
is_accepted supported (Disable less) = are_within less.assertions supported && are_within less.deassertions supported
is_accepted supported Reserved = false

-- the new value
abbrev pub value_after : SetEventEnable → List ℕ → List ℕ
value_after op old = event_value op.messages op.scanning (events_after op.change (enabled_in old))

-- the new value, or CCh
abbrev pub events_outcome : ℕ → SetEventEnable → List ℕ → Result (List ℕ) ℕ
events_outcome supported op old = if is_accepted supported op.change then Ok (value_after op old) else Err invalid_data_field

-- ---- requests

-- the selection, in bits 5:4 of the second byte
abbrev pub selection : EventChange → ℕ
selection Leave = 0
selection (Enable more) = 16
selection (Disable less) = 32
selection Reserved = 48

-- two masks, each the low byte first
abbrev pub mask_bytes : EventMasks → List ℕ
mask_bytes masks = masks.assertions % 256 ∷ masks.assertions / 256 ∷ masks.deassertions % 256 ∷ masks.deassertions / 256 ∷ []

-- a request that enables or disables events has their masks, and no other request has masks
abbrev pub masks_of : EventChange → List ℕ
masks_of (Enable more) = mask_bytes more
masks_of (Disable less) = mask_bytes less
masks_of _ = []

-- the data of the request that carries out the operation
abbrev pub event_enable_body : SetEventEnable → List ℕ
event_enable_body op = op.sensor ∷ (flags_byte op.messages op.scanning + selection op.change) ∷ masks_of op.change

-- two masks in such data, each the low byte first
abbrev pub event_masks_in : List ℕ → EventMasks
event_masks_in body = record { assertions = byte_at body 2 + 256 * byte_at body 3; deassertions = byte_at body 4 + 256 * byte_at body 5 }

-- the change of the enabled events, by the selection
abbrev pub selected : ℕ → EventMasks → EventChange
selected selection masks = if selection == 0 then Leave else (if selection == 1 then Enable masks else (if selection == 2 then Disable masks else Reserved))

-- the change that bits 5:4 of the second byte select
abbrev pub event_change_in : List ℕ → EventChange
event_change_in body = selected (byte_at body 1 / 16 % 4) (event_masks_in body)

-- the operation with these data
abbrev pub event_enable_in : List ℕ → SetEventEnable
event_enable_in body = record {
  sensor = byte_at body 0;
  messages = makes_messages (byte_at body 1);
  scanning = is_scanning (byte_at body 1);
  change = event_change_in body;
}

-- ---- the inverse

-- the inverse disables the events that the operation enabled, but for the old events, and enables the old events that the operation
-- disabled
abbrev pub undo_change : EventChange → EventMasks → EventChange
undo_change (Enable more) old = Disable (both_masks difference more old)
undo_change (Disable less) old = Enable (both_masks bit_and less old)
undo_change _ old = Leave

-- the operation that brings back the flags and the events that the reply shows
abbrev pub undo_event_enable : SetEventEnable → List ℕ → SetEventEnable
undo_event_enable op reply = record {
  sensor = op.sensor;
  messages = makes_messages (slice_index reply 0);
  scanning = is_scanning (slice_index reply 0);
  change = undo_change op.change (enabled_in reply);
}

-- ---- the kind

abbrev pub words : KindWords ℕ SetEventEnable
words = record {
  name = key.EventEnable;
  key_of = λ op. op.sensor;
  get_asked = λ sensor. sensor_request get_sensor_event_enable (sensor ∷ []);
  set_data = event_enable_body;
  set_asked = λ op. sensor_request set_sensor_event_enable (event_enable_body op);
  -- the Set reply has no data
  set_reply = λ op. [];
  next_live = λ op live. live;
  is_reply = λ op reply. length reply ≡ 5;
  -- each reply is enough
  restorable = λ op reply. Unit {0};
  inverse = λ op reply. if length reply == 5 then Some (undo_event_enable op reply) else None;
  -- the ignored bits 3:0 of the second byte aren't the operation's, so its request has 0 there
  is_plain = λ op. Unit {0};
}

abbrev pub record_words : ℕ → RecordWords ℕ SetEventEnable
record_words supported = record {
  is_of = λ sensor. Unit {0};
  valid = IsEventEnable supported;
  sets = SetsEventEnable supported;
  outcome = events_outcome supported;
  -- the Get reply has the flags and both masks, and all of it is configuration
  view = λ value live. value;
  conf = λ reply. reply;
  shown = λ value. value;
}

abbrev own_key : (k : Key) → Option ((own : ℕ) × (k ≡ words.name own))
own_key (key.EventEnable sensor) = Some (sensor, refl)
own_key _ = None

abbrev own_op : (o : Op) → Option ((own : SetEventEnable) × (o ≡ op.EventEnable own))
own_op (op.EventEnable o) = Some (o, refl)
own_op _ = None

abbrev pub place : Place words
place = record {
  op = op.EventEnable;
  own_key = own_key;
  own_op = own_op;
  finds_key = λ own. refl;
  finds_op = λ o. refl;
}
