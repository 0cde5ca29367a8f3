-- The LAN parameters of a channel, as a kind of record (IPMI 2.0, Set and Get LAN Configuration Parameters). A value has the data of the
-- parameter: an address, the source of the address in bits 3:0, or the bytes of the VLAN.
use Rattle.std.specs.Prelude.{◌≡◌, ℕ, ◌+◌, ◌/◌, ◌%◌, ◌<◌, List, [], ◌∷◌, drop, length, slice_index, Bool, true, nat_le, ◌&&◌, ◌==◌, IsTrue, if◌then◌else◌, Result, Ok, Err, Option, Some, None, refl}
use Rattle.two_wire.specs.Codes.{invalid_data_field}
use Rattle.record_base.specs.declared.key.Key.{Key}
use Rattle.record_base.specs.declared.key.Key.TheVariants as key
use Rattle.record_base.specs.declared.op.Op.{Op}
use Rattle.record_base.specs.declared.op.Op.TheVariants as op
use Rattle.record_base.specs.declared.lan_parameter.LanParameter.{LanParameter}
use Rattle.record_base.specs.declared.lan_parameter.ParameterOnChannel.{ParameterOnChannel}
use Rattle.record_base.specs.declared.lan_parameter.Ipv4Address.{Ipv4Address}
use Rattle.record_base.specs.declared.lan_parameter.VlanBytes.{VlanBytes}
use Rattle.record_base.specs.declared.lan_parameter.LanChange.{LanChange}
use Rattle.record_base.specs.declared.lan_parameter.LanChange.TheVariants.{Address, AddressSource, Vlan}
use Rattle.record_base.specs.declared.lan_parameter.SetLanParam.{SetLanParam}
use Rattle.record_base.specs.Kind.{KindWords, RecordWords}
use Rattle.record_base.specs.AllKinds.{Place}
use Rattle.record_base.specs.Lan.{lan_selector, lan_length, address_bytes, changed_parameter, lan_data, IsLanParam}
use Rattle.record_base.specs.LanItems.{parameter_on}
use Rattle.record_base.specs.Requests.{transport, ipmi_request}
use Rattle.record_base.specs.Vlan.{vlan_high}

-- the Set command and the Get command
abbrev pub set_lan_parameters : ℕ
set_lan_parameters = 0x01

abbrev pub get_lan_parameters : ℕ
get_lan_parameters = 0x02

-- the revision of the parameters, 1.1, which a reply gives first
abbrev pub lan_revision : ℕ
lan_revision = 0x11

-- both are the same parameter
abbrev pub same_parameter : LanParameter → LanParameter → Bool
same_parameter first second = lan_selector first == lan_selector second

-- ---- what a Set makes

-- a parameter can have the data of the change: bits 3:0 of a source are at most 4
abbrev pub is_change : LanChange → Bool
is_change (Address which address) = true
is_change (AddressSource byte) = nat_le (byte % 16) 4
is_change (Vlan vlan) = true

-- the value has the bytes of the address, the most significant first
pub record HasAddress (address : Ipv4Address) (value : List ℕ) : Type 0 where
  pub four : length value ≡ 4
  pub first : slice_index value 0 ≡ address.first
  pub second : slice_index value 1 ≡ address.second
  pub third : slice_index value 2 ≡ address.third
  pub fourth : slice_index value 3 ≡ address.fourth

-- the value has bits 3:0 of the byte, and 0 in bits 7:4
pub record HasSource (byte : ℕ) (value : List ℕ) : Type 0 where
  pub one : length value ≡ 1
  pub source : slice_index value 0 % 16 ≡ byte % 16
  pub no_others : slice_index value 0 < 16

-- the value has the VLAN's low byte, and bits 7 and 3:0 of its second byte, with 0 in bits 6:4
pub record HasVlan (vlan : VlanBytes) (value : List ℕ) : Type 0 where
  pub two : length value ≡ 2
  pub low : slice_index value 0 ≡ vlan.low
  pub enabled : slice_index value 1 / 128 ≡ vlan.high / 128
  pub high : slice_index value 1 % 16 ≡ vlan.high % 16
  pub no_others : slice_index value 1 / 16 % 8 ≡ 0

-- the value has what the change sets the parameter to
abbrev pub HasChange : LanChange → List ℕ → Type 0
HasChange (Address which address) value = HasAddress address value
HasChange (AddressSource byte) value = HasSource byte value
HasChange (Vlan vlan) value = HasVlan vlan value

-- the parameter can have the data of the change, and gets them
pub record SetsLanParam (parameter : LanParameter) (op : SetLanParam) (old new : List ℕ) : Type 0 where
  pub of_it : IsTrue (same_parameter (changed_parameter op.change) parameter)
  pub accepted : IsTrue (is_change op.change)
  pub made : HasChange op.change new

-- ---- the same as functions

-- the value after a change, without the ignored bits: 7:4 of a source, and 6:4 of a VLAN's second byte
abbrev pub value_after : LanChange → List ℕ
value_after (Address which address) = address_bytes address
value_after (AddressSource byte) = byte % 16 ∷ []
value_after (Vlan vlan) = vlan.low ∷ vlan_high vlan.high ∷ []

-- the change is on the parameter, and the parameter accepts it
abbrev pub is_taken : LanParameter → LanChange → Bool
is_taken parameter change = same_parameter (changed_parameter change) parameter && is_change change

-- the new value, or CCh
abbrev pub lan_outcome : LanParameter → SetLanParam → Result (List ℕ) ℕ
lan_outcome parameter op = if is_taken parameter op.change then Ok (value_after op.change) else Err invalid_data_field

-- ---- requests and replies

-- the data of a Set: the channel, the selector, and the data of the parameter
abbrev pub lan_body : SetLanParam → List ℕ
lan_body op = op.channel.number ∷ lan_selector (changed_parameter op.change) ∷ lan_data op.change

-- the data of a Get: the channel, the selector, any set, and the first block
abbrev pub lan_get_body : ParameterOnChannel → List ℕ
lan_get_body on = on.channel.number ∷ lan_selector on.parameter ∷ 0 ∷ 0 ∷ []

-- the Get reply: the revision, and the value
abbrev pub lan_view : List ℕ → List ℕ
lan_view value = lan_revision ∷ value

-- how long a Get reply is
abbrev pub lan_reply_length : LanParameter → ℕ
lan_reply_length parameter = 1 + lan_length parameter

-- ---- the inverse

-- the address that a reply shows
abbrev pub shown_address : List ℕ → Ipv4Address
shown_address reply = record { first = slice_index reply 1; second = slice_index reply 2; third = slice_index reply 3; fourth = slice_index reply 4 }

-- the VLAN that a reply shows
abbrev pub shown_vlan : List ℕ → VlanBytes
shown_vlan reply = record { low = slice_index reply 1; high = vlan_high (slice_index reply 2) }

-- the change that brings back the data that a reply shows
abbrev pub undo_change : LanChange → List ℕ → LanChange
undo_change (Address which address) reply = Address which (shown_address reply)
undo_change (AddressSource byte) reply = AddressSource (slice_index reply 1 % 16)
undo_change (Vlan vlan) reply = Vlan (shown_vlan reply)

-- the operation that brings back the data that a reply shows, on the same channel
abbrev pub undo_lan : SetLanParam → List ℕ → SetLanParam
undo_lan op reply = record { channel = op.channel; change = undo_change op.change reply }

-- the change has 0 in the ignored bits: 7:4 of a source, and 6:4 of a VLAN's second byte
abbrev pub is_plain_change : LanChange → Type 0
is_plain_change (Address which address) = Unit {0}
is_plain_change (AddressSource byte) = byte < 16
is_plain_change (Vlan vlan) = vlan_high vlan.high ≡ vlan.high

-- ---- the kind

abbrev pub words : KindWords ParameterOnChannel SetLanParam
words = record {
  name = key.LanParam;
  key_of = λ op. parameter_on op.channel (changed_parameter op.change);
  get_asked = λ on. ipmi_request transport get_lan_parameters (lan_get_body on);
  set_data = lan_body;
  set_asked = λ op. ipmi_request transport set_lan_parameters (lan_body op);
  -- the Set reply has no data
  set_reply = λ op. [];
  next_live = λ op live. live;
  is_reply = λ op reply. length reply ≡ lan_reply_length (changed_parameter op.change);
  -- each reply is enough
  restorable = λ op reply. Unit {0};
  inverse = λ op reply. if length reply == lan_reply_length (changed_parameter op.change) then Some (undo_lan op reply) else None;
  is_plain = λ op. is_plain_change op.change;
}

abbrev pub record_words : LanParameter → RecordWords ParameterOnChannel SetLanParam
record_words parameter = record {
  is_of = λ on. IsTrue (same_parameter on.parameter parameter);
  valid = IsLanParam parameter;
  sets = SetsLanParam parameter;
  outcome = λ op old. lan_outcome parameter op;
  -- the revision isn't configuration
  view = λ value live. lan_view value;
  conf = λ reply. drop 1 reply;
  shown = λ value. value;
}

abbrev own_key : (k : Key) → Option ((own : ParameterOnChannel) × (k ≡ words.name own))
own_key (key.LanParam on) = Some (on, refl)
own_key _ = None

abbrev own_op : (o : Op) → Option ((own : SetLanParam) × (o ≡ op.LanParam own))
own_op (op.LanParam o) = Some (o, refl)
own_op _ = None

abbrev pub place : Place words
place = record {
  op = op.LanParam;
  own_key = own_key;
  own_op = own_op;
  finds_key = λ own. refl;
  finds_op = λ o. refl;
}
