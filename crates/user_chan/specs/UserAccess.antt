-- The access of a user on a channel, as a kind of record (IPMI 2.0, Set and Get User Access). A value has one byte: bits 6:4 callback, link
-- and messages, and the limit of privileges in bits 3:0.
use Rattle.std.specs.Prelude.{◌≡◌, ℕ, ◌+◌, ◌*◌, ◌/◌, ◌%◌, ◌<◌, List, [], ◌∷◌, length, slice_index, count_ones, Bool, false, IsTrue, ◌==◌, if◌then◌else◌, Result, Ok, Err, Option, Some, None, refl}
use Rattle.two_wire.specs.Codes.{invalid_data_field}
use Rattle.record_base.specs.declared.key.Key.{Key}
use Rattle.record_base.specs.declared.key.Key.TheVariants as key
use Rattle.record_base.specs.declared.op.Op.{Op}
use Rattle.record_base.specs.declared.op.Op.TheVariants as op
use Rattle.record_base.specs.declared.live.Live.{Live}
use Rattle.record_base.specs.declared.user.UserOnChannel.{UserOnChannel}
use Rattle.record_base.specs.declared.user.SetUserAccess.{SetUserAccess}
use Rattle.record_base.specs.Kind.{KindWords, RecordWords}
use Rattle.record_base.specs.AllKinds.{Place}
use Rattle.record_base.specs.Masks.{has}
use Rattle.record_base.specs.Numbers.{user_on}
use Rattle.record_base.specs.UserAccess.{is_limit, IsUserAccess}
use Rattle.record_base.specs.Requests.{application, ipmi_request, byte_at}
use Rattle.user_chan.specs.declared.user_access.UserAccessLimits.{UserAccessLimits}

-- the Set command and the Get command
abbrev pub set_user_access : ℕ
set_user_access = 0x43

abbrev pub get_user_access : ℕ
get_user_access = 0x44

-- bits 6:4 of a byte: callback, link and messages
abbrev pub bits_of : ℕ → ℕ
bits_of byte = byte / 16 % 8

-- bits 3:0: the limit of a value, or the channel of a request
abbrev pub low_of : ℕ → ℕ
low_of byte = byte % 16

-- the operation changes bits 6:4
abbrev pub changes_bits : SetUserAccess → Bool
changes_bits op = has op.first 7

-- ---- what a Set makes

-- the limit becomes the operation's limit, and bits 6:4 become the operation's bits where it changes them
pub record SetsUserAccess (op : SetUserAccess) (old new : List ℕ) : Type 0 where
  pub accepted : IsTrue (is_limit (low_of op.limit))
  pub one : length new ≡ 1
  pub seven_bits : slice_index new 0 < 128
  pub limited : low_of (slice_index new 0) ≡ low_of op.limit
  pub changed : IsTrue (changes_bits op) → bits_of (slice_index new 0) ≡ bits_of op.first
  pub kept : changes_bits op ≡ false → bits_of (slice_index new 0) ≡ bits_of (slice_index old 0)

-- bits 6:4 after the operation
abbrev pub next_bits : SetUserAccess → ℕ → ℕ
next_bits op old = if changes_bits op then bits_of op.first else bits_of old

-- the value of these bits and this limit
abbrev pub byte_of : ℕ → ℕ → ℕ
byte_of bits limit = bits * 16 + low_of limit

-- the new value, or CCh
abbrev pub access_outcome : SetUserAccess → List ℕ → Result (List ℕ) ℕ
access_outcome op old =
    if is_limit (low_of op.limit) then Ok (byte_of (next_bits op (slice_index old 0)) op.limit ∷ []) else Err invalid_data_field

-- ---- requests and replies

-- the byte of the limit of sessions, if the operation has one
abbrev pub session_bytes : Option ℕ → List ℕ
session_bytes (Some limit) = limit ∷ []
session_bytes None = []

-- the data of the request that carries out the operation
abbrev pub access_body : SetUserAccess → List ℕ
access_body op = op.first ∷ op.user ∷ op.limit ∷ session_bytes op.session_limit

-- the limit of sessions in such data
abbrev pub session_limit_in : List ℕ → Option ℕ
session_limit_in (first ∷ user ∷ privilege ∷ limit ∷ rest) = Some limit
session_limit_in _ = None

-- the operation with these data
abbrev pub access_in : List ℕ → SetUserAccess
access_in body = record { first = byte_at body 0; user = byte_at body 1; limit = byte_at body 2; session_limit = session_limit_in body }

-- the user is enabled
abbrev pub is_enabled : ℕ → Live → Bool
is_enabled user live = has live.enabled_users user

-- the status of a user, in bits 7:6 of a reply: enabled or disabled
abbrev pub status_of : Bool → ℕ
status_of enabled = if enabled then 0x40 else 0x80

-- the status of a user beside the number of enabled users
abbrev pub status_byte : Bool → ℕ → ℕ
status_byte enabled count = status_of enabled + count

-- the Get reply: how many users a board has at most, the status beside the number of enabled users, how many have fixed names, and the
-- value
abbrev pub access_view : UserAccessLimits → List ℕ → Live → List ℕ
access_view limits value live = limits.most ∷ status_byte (is_enabled limits.user.number live) (count_ones live.enabled_users) ∷ 1 ∷ slice_index value 0 ∷ []

-- ---- the inverse

-- the first byte of a request with the same choice and these bits
abbrev pub first_byte : SetUserAccess → ℕ → ℕ
first_byte op bits = if changes_bits op then 128 + bits * 16 + low_of op.first else low_of op.first

-- the operation that brings back the access that a reply shows: the limit, and the bits where the operation changed them
abbrev pub undo_access : SetUserAccess → List ℕ → SetUserAccess
undo_access op reply = record {
  first = first_byte op (bits_of (slice_index reply 3));
  user = op.user % 64;
  limit = low_of (slice_index reply 3);
  session_limit = None;
}

-- the operation sets no ignored bit: the bits beside a user and a limit, and bits 6:4 where it doesn't change them. It has no limit of
-- sessions.
pub record IsPlainAccess (op : SetUserAccess) : Type 0 where
  pub user : op.user < 64
  pub limit : op.limit < 16
  pub unchanged : changes_bits op ≡ false → bits_of op.first ≡ 0
  pub three : op.session_limit ≡ None

-- ---- the kind

abbrev pub words : KindWords UserOnChannel SetUserAccess
words = record {
  name = key.UserAccess;
  key_of = λ op. user_on op.first op.user;
  get_asked = λ on. ipmi_request application get_user_access (on.channel.number ∷ on.user.number ∷ []);
  set_data = access_body;
  set_asked = λ op. ipmi_request application set_user_access (access_body op);
  -- the Set reply has no data
  set_reply = λ op. [];
  next_live = λ op live. live;
  is_reply = λ op reply. length reply ≡ 4;
  -- each reply is enough
  restorable = λ op reply. Unit {0};
  inverse = λ op reply. if length reply == 4 then Some (undo_access op reply) else None;
  is_plain = IsPlainAccess;
}

abbrev pub record_words : UserAccessLimits → RecordWords UserOnChannel SetUserAccess
record_words limits = record {
  is_of = λ on. Unit {0};
  valid = IsUserAccess;
  sets = SetsUserAccess;
  outcome = access_outcome;
  view = access_view limits;
  -- the value alone is configuration, and not the status of users
  conf = λ reply. slice_index reply 3 ∷ [];
  shown = λ value. value;
}

abbrev own_key : (k : Key) → Option ((own : UserOnChannel) × (k ≡ words.name own))
own_key (key.UserAccess on) = Some (on, refl)
own_key _ = None

abbrev own_op : (o : Op) → Option ((own : SetUserAccess) × (o ≡ op.UserAccess own))
own_op (op.UserAccess o) = Some (o, refl)
own_op _ = None

abbrev pub place : Place words
place = record {
  op = op.UserAccess;
  own_key = own_key;
  own_op = own_op;
  finds_key = λ own. refl;
  finds_op = λ o. refl;
}
