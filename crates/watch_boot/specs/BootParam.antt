-- The boot parameters, as a kind of record (IPMI 2.0).
use Rattle.std.specs.Prelude.{◌≡◌, ℕ, ◌+◌, ◌%◌, ◌<◌, List, [], ◌∷◌, ◌++◌, length, slice_index, bit_and, bit_xor, ◌==◌, Bool, true, false, IsTrue, if◌then◌else◌, Result, Ok, Err, Option, Some, None, refl}
use Rattle.two_wire.specs.Codes.{invalid_data_field}
use Rattle.record_base.specs.declared.key.Key.{Key}
use Rattle.record_base.specs.declared.key.Key.TheVariants as key
use Rattle.record_base.specs.declared.op.Op.{Op}
use Rattle.record_base.specs.declared.op.Op.TheVariants as op
use Rattle.record_base.specs.declared.boot_param.BootParameter.{BootParameter}
use Rattle.record_base.specs.declared.boot_param.BootParameter.TheVariants as parameter
use Rattle.record_base.specs.declared.boot_param.BootFlags.{BootFlags}
use Rattle.record_base.specs.declared.boot_param.BootChange.{BootChange}
use Rattle.record_base.specs.declared.boot_param.BootChange.TheVariants.{MarkAlone, ValidBitClearing, InfoAcknowledge, Flags}
use Rattle.record_base.specs.declared.boot_param.SetBootParam.{SetBootParam}
use Rattle.record_base.specs.Kind.{KindWords, RecordWords}
use Rattle.record_base.specs.AllKinds.{Place}
use Rattle.record_base.specs.Masks.{has}
use Rattle.record_base.specs.BootParam.{selector, parameter_of, change_bytes, flag_bytes, IsBootParam}
use Rattle.record_base.specs.Requests.{chassis, ipmi_request}

-- the Set command and the Get command
abbrev pub set_boot_options : ℕ
set_boot_options = 0x08

abbrev pub get_boot_options : ℕ
get_boot_options = 0x09

-- both are the same parameter
abbrev pub same_parameter : BootParameter → BootParameter → Bool
same_parameter first second = selector first == selector second

-- ---- what a Set makes

-- a byte has the new bits at the mask's places, and the old bits at the other places
pub record IsMasked (mask bits old new : ℕ) : Type 0 where
  pub byte : new < 256
  pub written : (place : ℕ) → place < 8 → IsTrue (has mask place) → has new place ≡ has bits place
  pub others : (place : ℕ) → place < 8 → (has mask place ≡ false) → has new place ≡ has old place

-- the mark that a parameter is invalid
abbrev pub mark_of : Bool → ℕ
mark_of true = 1
mark_of false = 0

-- the data of a parameter's value
abbrev pub body_of : BootParameter → List ℕ → List ℕ
body_of parameter.ValidBitClearing value = slice_index value 1 ∷ []
body_of parameter.InfoAcknowledge value = slice_index value 1 ∷ []
body_of parameter.Flags value = slice_index value 1 ∷ slice_index value 2 ∷ slice_index value 3 ∷ slice_index value 4 ∷ slice_index value 5 ∷ []

-- the data of parameter 3 have bits 4:0 of the byte, and 0 in bits 7:5
pub record HasClearing (byte : ℕ) (body : List ℕ) : Type 0 where
  pub one : length body ≡ 1
  pub bits : slice_index body 0 % 32 ≡ byte % 32
  pub no_others : slice_index body 0 < 32

-- the data of parameter 5 are the flags, each in its byte
pub record HasFlags (flags : BootFlags) (body : List ℕ) : Type 0 where
  pub five : length body ≡ 5
  pub validity : slice_index body 0 ≡ flags.validity
  pub device : slice_index body 1 ≡ flags.device
  pub console : slice_index body 2 ≡ flags.console
  pub overrides : slice_index body 3 ≡ flags.overrides
  pub instance : slice_index body 4 ≡ flags.instance

-- the new data of a value: the old data, bits 4:0 of the byte, the old byte with the masked bits written, or the flags
abbrev pub ChangesParameter : BootChange → List ℕ → List ℕ → Type 0
ChangesParameter (MarkAlone parameter) old body = body ≡ body_of parameter old
ChangesParameter (ValidBitClearing byte) old body = HasClearing byte body
ChangesParameter (InfoAcknowledge masked) old body = (length body ≡ 1) × IsMasked masked.mask masked.bits (slice_index old 1) (slice_index body 0)
ChangesParameter (Flags flags) old body = HasFlags flags body

-- the mark becomes the operation's mark, and the data behind the mark change by the operation's change
pub record SetsBootParam (parameter : BootParameter) (op : SetBootParam) (old new : List ℕ) : Type 0 where
  pub of_it : IsTrue (same_parameter (parameter_of op.change) parameter)
  pub body : List ℕ
  pub all : new ≡ mark_of op.invalid ∷ body
  pub changed : ChangesParameter op.change old body

-- ---- the same as functions

-- the old byte with the masked bits written
abbrev pub masked_byte : ℕ → ℕ → ℕ → ℕ
masked_byte mask bits old = bit_xor old (bit_and (bit_xor old bits) mask) % 256

-- the data after a change
abbrev pub body_after : BootChange → List ℕ → List ℕ
body_after (MarkAlone parameter) old = body_of parameter old
body_after (ValidBitClearing byte) old = byte % 32 ∷ []
body_after (InfoAcknowledge masked) old = masked_byte masked.mask masked.bits (slice_index old 1) ∷ []
body_after (Flags flags) old = flag_bytes flags

-- the new value; an operation on another parameter has none
abbrev pub boot_outcome : BootParameter → SetBootParam → List ℕ → Result (List ℕ) ℕ
boot_outcome parameter op old = if same_parameter (parameter_of op.change) parameter then Ok (mark_of op.invalid ∷ body_after op.change old) else Err invalid_data_field

-- ---- requests and replies

-- the first byte of a Set, and the second of a reply: the selector, with the mark in bit 7
abbrev pub marked : Bool → BootParameter → ℕ
marked true parameter = 128 + selector parameter
marked false parameter = selector parameter

-- the data of a Set: the first byte, and the data of the change
abbrev pub boot_body : SetBootParam → List ℕ
boot_body op = marked op.invalid (parameter_of op.change) ∷ change_bytes op.change

-- the bytes of a reply before the parameter's data: parameter 4 shows no mask
abbrev pub before_body : BootParameter → List ℕ
before_body parameter.InfoAcknowledge = 0 ∷ []
before_body _ = []

-- the Get reply: version 1, the mark with the selector, and the data
abbrev pub boot_view : BootParameter → List ℕ → List ℕ
boot_view parameter value = 1 ∷ marked (slice_index value 0 == 1) parameter ∷ (before_body parameter ++ body_of parameter value)

-- how long a Get reply is
abbrev pub reply_length : BootParameter → ℕ
reply_length parameter.ValidBitClearing = 3
reply_length parameter.InfoAcknowledge = 4
reply_length parameter.Flags = 7

-- ---- the inverse

-- the flags that a reply shows
abbrev pub shown_flags : List ℕ → BootFlags
shown_flags reply = record { validity = slice_index reply 2; device = slice_index reply 3; console = slice_index reply 4; overrides = slice_index reply 5; instance = slice_index reply 6 }

-- the change that brings back the data that a reply shows: of parameter 4 the same bits, from the whole old byte
abbrev pub undo_change : BootChange → List ℕ → BootChange
undo_change (MarkAlone parameter) reply = MarkAlone parameter
undo_change (ValidBitClearing byte) reply = ValidBitClearing (slice_index reply 2 % 32)
undo_change (InfoAcknowledge masked) reply = InfoAcknowledge (record { mask = masked.mask; bits = slice_index reply 3 })
undo_change (Flags flags) reply = Flags (shown_flags reply)

abbrev pub undo_boot : SetBootParam → List ℕ → SetBootParam
undo_boot op reply = record { invalid = has (slice_index reply 1) 7; change = undo_change op.change reply }

-- parameter 3 alone has ignored bits: 7:5
abbrev pub is_plain_change : BootChange → Type 0
is_plain_change (ValidBitClearing byte) = byte < 32
is_plain_change _ = Unit {0}

-- ---- the kind

abbrev pub words : KindWords BootParameter SetBootParam
words = record {
  name = key.BootParam;
  key_of = λ op. parameter_of op.change;
  -- any set, and the first block
  get_asked = λ parameter. ipmi_request chassis get_boot_options (selector parameter ∷ 0 ∷ 0 ∷ []);
  set_data = boot_body;
  set_asked = λ op. ipmi_request chassis set_boot_options (boot_body op);
  -- the Set reply has no data
  set_reply = λ op. [];
  next_live = λ op live. live;
  is_reply = λ op reply. length reply ≡ reply_length (parameter_of op.change);
  -- each reply is enough
  restorable = λ op reply. Unit {0};
  inverse = λ op reply. if length reply == reply_length (parameter_of op.change) then Some (undo_boot op reply) else None;
  is_plain = λ op. is_plain_change op.change;
}

abbrev pub record_words : BootParameter → RecordWords BootParameter SetBootParam
record_words parameter = record {
  is_of = λ other. IsTrue (same_parameter other parameter);
  valid = IsBootParam parameter;
  sets = SetsBootParam parameter;
  outcome = boot_outcome parameter;
  -- all of the Get reply is configuration
  view = λ value live. boot_view parameter value;
  conf = λ reply. reply;
  shown = λ value. value;
}

abbrev own_key : (k : Key) → Option ((own : BootParameter) × (k ≡ words.name own))
own_key (key.BootParam own) = Some (own, refl)
own_key _ = None

abbrev own_op : (o : Op) → Option ((own : SetBootParam) × (o ≡ op.BootParam own))
own_op (op.BootParam o) = Some (o, refl)
own_op _ = None

abbrev pub place : Place words
place = record {
  op = op.BootParam;
  own_key = own_key;
  own_op = own_op;
  finds_key = λ own. refl;
  finds_op = λ o. refl;
}
