-- The names of users, as a kind of record (IPMI 2.0, Set and Get User Name). A value has the bytes of a name.
use Rattle.std.specs.Prelude.{◌≡◌, ◌≢◌, ℕ, ◌%◌, ◌<◌, List, [], ◌∷◌, length, ◌==◌, if◌then◌else◌, Result, Ok, Err, Option, Some, None, refl}
use Rattle.two_wire.specs.Codes.{invalid_data_field}
use Rattle.record_base.specs.declared.key.Key.{Key}
use Rattle.record_base.specs.declared.key.Key.TheVariants as key
use Rattle.record_base.specs.declared.op.Op.{Op}
use Rattle.record_base.specs.declared.op.Op.TheVariants as op
use Rattle.record_base.specs.declared.user.SetUserName.{SetUserName}
use Rattle.record_base.specs.Kind.{KindWords, RecordWords}
use Rattle.record_base.specs.AllKinds.{Place}
use Rattle.record_base.specs.Numbers.{UserNumber, user_in}
use Rattle.record_base.specs.Requests.{application, ipmi_request, byte_at, bytes_at}
use Rattle.record_base.specs.UserSizes.{user_name_size}

-- the Set command and the Get command
abbrev pub set_user_name : ℕ
set_user_name = 0x45

abbrev pub get_user_name : ℕ
get_user_name = 0x46

-- user 1, who has no name. No Set changes it.
abbrev pub nameless : ℕ
nameless = 1

-- the user that an operation names
abbrev pub user_of : SetUserName → ℕ
user_of op = op.user % 64

-- the name of any user but user 1 becomes the operation's name
pub record SetsUserName (op : SetUserName) (new : List ℕ) : Type 0 where
  pub has_name : user_of op ≢ nameless
  pub all : new ≡ op.name

-- the new value, or CCh
abbrev pub name_outcome : SetUserName → Result (List ℕ) ℕ
name_outcome op = if user_of op == nameless then Err invalid_data_field else Ok op.name

-- the name that a reply shows
abbrev pub shown_name : List ℕ → List ℕ
shown_name reply = bytes_at user_name_size reply 0

-- the operation that sets the name of the reply
abbrev pub undo_name : SetUserName → List ℕ → SetUserName
undo_name op reply = record { user = user_of op; name = shown_name reply; sized = refl }

-- the data of the request that carries out the operation
abbrev pub name_body : SetUserName → List ℕ
name_body op = op.user ∷ op.name

-- the operation with these data
abbrev pub name_in : List ℕ → SetUserName
name_in body = record {
  user = byte_at body 0;
  name = bytes_at user_name_size body 1;
  sized = refl;
}

-- ---- the kind

abbrev pub words : KindWords UserNumber SetUserName
words = record {
  name = key.UserName;
  key_of = λ op. user_in op.user;
  get_asked = λ user. ipmi_request application get_user_name (user.number ∷ []);
  set_data = name_body;
  set_asked = λ op. ipmi_request application set_user_name (name_body op);
  -- the Set reply has no data
  set_reply = λ op. [];
  next_live = λ op live. live;
  is_reply = λ op reply. length reply ≡ user_name_size;
  -- each reply is enough
  restorable = λ op reply. Unit {0};
  inverse = λ op reply. if length reply == user_name_size then Some (undo_name op reply) else None;
  -- a controller ignores bits 7:6 of the user's byte
  is_plain = λ op. op.user < 64;
}

abbrev pub record_words : RecordWords UserNumber SetUserName
record_words = record {
  is_of = λ user. Unit {0};
  -- any bytes of that number
  valid = λ value. length value ≡ user_name_size;
  sets = λ op old new. SetsUserName op new;
  outcome = λ op old. name_outcome op;
  -- the Get reply has the name, and all of it is configuration
  view = λ value live. value;
  conf = λ reply. reply;
  shown = λ value. value;
}

abbrev own_key : (k : Key) → Option ((own : UserNumber) × (k ≡ words.name own))
own_key (key.UserName user) = Some (user, refl)
own_key _ = None

abbrev own_op : (o : Op) → Option ((own : SetUserName) × (o ≡ op.UserName own))
own_op (op.UserName o) = Some (o, refl)
own_op _ = None

abbrev pub place : Place words
place = record {
  op = op.UserName;
  own_key = own_key;
  own_op = own_op;
  finds_key = λ own. refl;
  finds_op = λ o. refl;
}
