-- The global enables, as a kind of record (IPMI 2.0).
use Rattle.std.specs.Prelude.{◌≡◌, ℕ, List, [], ◌∷◌, length, slice_index, ◌==◌, IsTrue, if◌then◌else◌, Result, Ok, Err, Option, Some, None, refl}
use Rattle.two_wire.specs.Codes.{invalid_data_field}
use Rattle.record_base.specs.declared.key.Key.{Key}
use Rattle.record_base.specs.declared.key.Key.TheVariants as key
use Rattle.record_base.specs.declared.op.Op.{Op}
use Rattle.record_base.specs.declared.op.Op.TheVariants as op
use Rattle.record_base.specs.declared.global_enables.SetGlobalEnables.{SetGlobalEnables}
use Rattle.record_base.specs.Kind.{KindWords, RecordWords}
use Rattle.record_base.specs.AllKinds.{Place}
use Rattle.record_base.specs.GlobalEnables.{are_enables, AreGlobalEnables}
use Rattle.record_base.specs.Requests.{application, ipmi_request, byte_at}

-- the Set command and the Get command
abbrev pub set_global_enables : ℕ
set_global_enables = 0x2E

abbrev pub get_global_enables : ℕ
get_global_enables = 0x2F

-- the byte of the operation becomes the value, where its reserved bit is 0
pub record SetsEnables (op : SetGlobalEnables) (new : List ℕ) : Type 0 where
  pub unreserved : IsTrue (are_enables op.byte)
  pub all : new ≡ op.byte ∷ []

-- the new value, or CCh
abbrev pub enables_outcome : SetGlobalEnables → Result (List ℕ) ℕ
enables_outcome op = if are_enables op.byte then Ok (op.byte ∷ []) else Err invalid_data_field

-- the operation that sets the byte of the reply
abbrev pub undo_enables : List ℕ → SetGlobalEnables
undo_enables reply = record { byte = slice_index reply 0 }

-- the operation with these data
abbrev pub enables_in : List ℕ → SetGlobalEnables
enables_in body = record { byte = byte_at body 0 }

-- ---- the kind

abbrev pub words : KindWords (Unit {0}) SetGlobalEnables
words = record {
  name = λ alone. key.GlobalEnables;
  key_of = λ op. tt;
  get_asked = λ alone. ipmi_request application get_global_enables [];
  set_data = λ op. op.byte ∷ [];
  set_asked = λ op. ipmi_request application set_global_enables (op.byte ∷ []);
  -- the Set reply has no data
  set_reply = λ op. [];
  next_live = λ op live. live;
  is_reply = λ op reply. length reply ≡ 1;
  -- each reply is enough
  restorable = λ op reply. Unit {0};
  inverse = λ op reply. if length reply == 1 then Some (undo_enables reply) else None;
  -- no bit is ignored
  is_plain = λ op. Unit {0};
}

abbrev pub record_words : RecordWords (Unit {0}) SetGlobalEnables
record_words = record {
  is_of = λ alone. Unit {0};
  valid = AreGlobalEnables;
  -- whatever the old value is
  sets = λ op old new. SetsEnables op new;
  outcome = λ op old. enables_outcome op;
  -- the Get reply has the byte, and all of it is configuration
  view = λ value live. value;
  conf = λ reply. reply;
  shown = λ value. value;
}

abbrev own_key : (k : Key) → Option ((own : Unit {0}) × (k ≡ words.name own))
own_key key.GlobalEnables = Some (tt, refl)
own_key _ = None

abbrev own_op : (o : Op) → Option ((own : SetGlobalEnables) × (o ≡ op.GlobalEnables own))
own_op (op.GlobalEnables o) = Some (o, refl)
own_op _ = None

abbrev pub place : Place words
place = record {
  op = op.GlobalEnables;
  own_key = own_key;
  own_op = own_op;
  finds_key = λ own. refl;
  finds_op = λ o. refl;
}
