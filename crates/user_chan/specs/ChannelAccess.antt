-- The access of a channel, in one of its stores, as a kind of record (IPMI 2.0, Set and Get Channel Access). A value has two bytes: the
-- access in bits 5:0, of which 2:0 are the mode, and the limit of privileges.
use Rattle.std.specs.Prelude.{◌≡◌, ℕ, ◌+◌, ◌*◌, ◌%◌, ◌<◌, List, [], ◌∷◌, length, slice_index, Bool, ◌&&◌, ◌==◌, IsTrue, if◌then◌else◌, Result, Ok, Err, Option, Some, None, refl}
use Rattle.two_wire.specs.Codes.{invalid_data_field}
use Rattle.record_base.specs.declared.key.Key.{Key}
use Rattle.record_base.specs.declared.key.Key.TheVariants as key
use Rattle.record_base.specs.declared.op.Op.{Op}
use Rattle.record_base.specs.declared.op.Op.TheVariants as op
use Rattle.record_base.specs.declared.channel.AccessStore.{AccessStore}
use Rattle.record_base.specs.declared.channel.AccessStore.TheVariants.{NonVolatile, Volatile, Neither}
use Rattle.record_base.specs.declared.channel.StoredAccess.{StoredAccess}
use Rattle.record_base.specs.declared.channel.ChannelChange.{ChannelChange}
use Rattle.record_base.specs.declared.channel.ChannelChange.TheVariants.{Access, Limit, Both}
use Rattle.record_base.specs.declared.channel.SetChannelAccess.{SetChannelAccess}
use Rattle.record_base.specs.Kind.{KindWords, RecordWords}
use Rattle.record_base.specs.AllKinds.{Place}
use Rattle.record_base.specs.Values.{stored}
use Rattle.record_base.specs.ChannelAccess.{IsChannelAccess}
use Rattle.record_base.specs.UserSizes.{is_privilege, has_mode}
use Rattle.record_base.specs.Numbers.{low_bits}
use Rattle.record_base.specs.Requests.{application, ipmi_request}

-- the Set command and the Get command
abbrev pub set_channel_access : ℕ
set_channel_access = 0x40

abbrev pub get_channel_access : ℕ
get_channel_access = 0x41

-- ---- what a Set makes

-- bits 3:0 of a limit's byte are a limit
abbrev pub is_limit : ℕ → Bool
is_limit byte = is_privilege (byte % 16)

-- a channel can have each part that the change names
abbrev pub is_change : ChannelChange → Bool
is_change (Access access) = has_mode access.number
is_change (Limit limit) = is_limit limit.number
is_change (Both access limit) = has_mode access.number && is_limit limit.number

-- the access that the change sets, and the limit, in bits 3:0 of its byte: none where the change leaves the part
abbrev pub set_access : ChannelChange → Option ℕ
set_access (Access access) = Some access.number
set_access (Limit limit) = None
set_access (Both access limit) = Some access.number

abbrev pub set_limit : ChannelChange → Option ℕ
set_limit (Access access) = None
set_limit (Limit limit) = Some (limit.number % 16)
set_limit (Both access limit) = Some (limit.number % 16)

-- a part becomes what a change sets, and stays where the change sets nothing
abbrev pub IsSetOrLeft : Option ℕ → ℕ → ℕ → Type 0
IsSetOrLeft (Some number) old new = new ≡ number
IsSetOrLeft None old new = new ≡ old

-- each part of the value is set or left, as the change says
pub record ChangesAccess (change : ChannelChange) (old new : List ℕ) : Type 0 where
  pub two : length new ≡ 2
  pub access : IsSetOrLeft (set_access change) (slice_index old 0) (slice_index new 0)
  pub limit : IsSetOrLeft (set_limit change) (slice_index old 1) (slice_index new 1)

-- the change is one that a channel can have, and makes the new value
pub record SetsChannelAccess (op : SetChannelAccess) (old new : List ℕ) : Type 0 where
  pub accepted : IsTrue (is_change op.change)
  pub made : ChangesAccess op.change old new

-- ---- the same as functions

-- the value after a change: the parts that the change names become new, and the others stay
abbrev pub changed : ChannelChange → List ℕ → List ℕ
changed (Access access) old = access.number ∷ slice_index old 1 ∷ []
changed (Limit limit) old = slice_index old 0 ∷ limit.number % 16 ∷ []
changed (Both access limit) old = access.number ∷ limit.number % 16 ∷ []

-- the new value, or CCh
abbrev pub channel_outcome : SetChannelAccess → List ℕ → Result (List ℕ) ℕ
channel_outcome op old = if is_change op.change then Ok (changed op.change old) else Err invalid_data_field

-- ---- requests

-- the bits that name a store: 01b, 10b, and 11b for neither
abbrev pub store_bits : AccessStore → ℕ
store_bits NonVolatile = 1
store_bits Volatile = 2
store_bits Neither = 3

-- six bits behind the bits of the store
abbrev pub in_store : AccessStore → ℕ → ℕ
in_store store bits = store_bits store * 64 + bits

-- the two bytes of a change: 00h leaves a part
abbrev pub change_bytes : AccessStore → ChannelChange → List ℕ
change_bytes store (Access access) = in_store store access.number ∷ 0 ∷ []
change_bytes store (Limit limit) = 0 ∷ in_store store limit.number ∷ []
change_bytes store (Both access limit) = in_store store access.number ∷ in_store store limit.number ∷ []

-- the data of the request that carries out the operation
abbrev pub channel_body : SetChannelAccess → List ℕ
channel_body op = op.channel.number ∷ change_bytes op.store op.change

-- ---- the inverse

-- the same parts, with the bytes that a reply shows
abbrev pub undo_change : ChannelChange → List ℕ → ChannelChange
undo_change (Access access) reply = Access (low_bits 6 (slice_index reply 0))
undo_change (Limit limit) reply = Limit (low_bits 6 (slice_index reply 1 % 16))
undo_change (Both access limit) reply = Both (low_bits 6 (slice_index reply 0)) (low_bits 6 (slice_index reply 1 % 16))

abbrev pub undo_channel : SetChannelAccess → List ℕ → SetChannelAccess
undo_channel op reply = record { channel = op.channel; store = op.store; change = undo_change op.change reply }

-- bits 5:4 of a limit's byte are ignored
abbrev pub is_plain_change : ChannelChange → Type 0
is_plain_change (Access access) = Unit {0}
is_plain_change (Limit limit) = limit.number < 16
is_plain_change (Both access limit) = limit.number < 16

-- ---- the kind

abbrev pub words : KindWords StoredAccess SetChannelAccess
words = record {
  name = key.ChannelAccess;
  key_of = λ op. stored op.channel op.store;
  get_asked = λ at. ipmi_request application get_channel_access (at.channel.number ∷ in_store at.store 0 ∷ []);
  set_data = channel_body;
  set_asked = λ op. ipmi_request application set_channel_access (channel_body op);
  -- the Set reply has no data
  set_reply = λ op. [];
  next_live = λ op live. live;
  is_reply = λ op reply. length reply ≡ 2;
  -- each reply is enough
  restorable = λ op reply. Unit {0};
  inverse = λ op reply. if length reply == 2 then Some (undo_channel op reply) else None;
  is_plain = λ op. is_plain_change op.change;
}

abbrev pub record_words : RecordWords StoredAccess SetChannelAccess
record_words = record {
  is_of = λ at. Unit {0};
  valid = IsChannelAccess;
  sets = SetsChannelAccess;
  outcome = channel_outcome;
  -- the Get reply has both bytes, and all of it is configuration
  view = λ value live. value;
  conf = λ reply. reply;
  shown = λ value. value;
}

abbrev own_key : (k : Key) → Option ((own : StoredAccess) × (k ≡ words.name own))
own_key (key.ChannelAccess at) = Some (at, refl)
own_key _ = None

abbrev own_op : (o : Op) → Option ((own : SetChannelAccess) × (o ≡ op.ChannelAccess own))
own_op (op.ChannelAccess o) = Some (o, refl)
own_op _ = None

abbrev pub place : Place words
place = record {
  op = op.ChannelAccess;
  own_key = own_key;
  own_op = own_op;
  finds_key = λ own. refl;
  finds_op = λ o. refl;
}
