-- The power restore policy, as a kind of record (IPMI 2.0): Get Chassis Status shows it in bits 6:5
-- of its first byte.
use Rattle.std.specs.Prelude.{◌≡◌, ◌≢◌, ℕ, ◌+◌, ◌*◌, ◌/◌, ◌%◌, ◌<◌, ◌≤◌, List, [], ◌∷◌, length, slice_index, nat_le, ◌==◌, ◌&&◌, not, Bool, if◌then◌else◌, Result, Ok, Err, Option, Some, None, refl}
use Rattle.two_wire.specs.Codes.{invalid_data_field}
use Rattle.record_base.specs.declared.key.Key.{Key}
use Rattle.record_base.specs.declared.key.Key.TheVariants as key
use Rattle.record_base.specs.declared.op.Op.{Op}
use Rattle.record_base.specs.declared.op.Op.TheVariants as op
use Rattle.record_base.specs.declared.power_policy.SetPowerPolicy.{SetPowerPolicy}
use Rattle.record_base.specs.declared.live.Live.{Live}
use Rattle.record_base.specs.Kind.{KindWords, RecordWords}
use Rattle.record_base.specs.AllKinds.{Place}
use Rattle.record_base.specs.PowerPolicy.{IsPowerPolicy}
use Rattle.record_base.specs.Requests.{chassis, ipmi_request, byte_at}

-- the Set command, and the command that gets the policy among other things
abbrev pub set_power_restore_policy : ℕ
set_power_restore_policy = 0x06

abbrev pub get_chassis_status : ℕ
get_chassis_status = 0x01

-- the policies that the Set reply names: a bit for each of 0, 1 and 2
abbrev pub supported : ℕ
supported = 0x07

-- the policy that the operation asks for: bits 2:0
abbrev pub asked_policy : SetPowerPolicy → ℕ
asked_policy op = op.policy % 8

-- 0, 1 and 2 become the policy, 3 changes nothing, and the record accepts no other number
pub record SetsPolicy (op : SetPowerPolicy) (old new : List ℕ) : Type 0 where
  pub known : asked_policy op ≤ 3
  pub one : length new ≡ 1
  pub changed : asked_policy op < 3 → slice_index new 0 ≡ asked_policy op
  pub unchanged : asked_policy op ≡ 3 → slice_index new 0 ≡ slice_index old 0

-- the policy after the operation
abbrev pub next_policy : SetPowerPolicy → List ℕ → ℕ
next_policy op old = if asked_policy op == 3 then slice_index old 0 else asked_policy op

-- the new value, or CCh
abbrev pub policy_outcome : SetPowerPolicy → List ℕ → Result (List ℕ) ℕ
policy_outcome op old = if nat_le (asked_policy op) 3 then Ok (next_policy op old ∷ []) else Err invalid_data_field

-- the chassis status: the policy in bits 6:5 with the chassis bits in 4:0, and two bytes of 00h
abbrev pub status : List ℕ → Live → List ℕ
status value live = (slice_index value 0 * 32 + live.chassis % 32) ∷ 0 ∷ 0 ∷ []

-- the policy that a status shows
abbrev pub shown_policy : List ℕ → ℕ
shown_policy reply = slice_index reply 0 / 32 % 4

-- the test that the data are a status of a known policy
abbrev pub is_known : List ℕ → Bool
is_known reply = length reply == 3 && not (shown_policy reply == 3)

-- the operation that sets the policy of the status
abbrev pub undo_policy : List ℕ → SetPowerPolicy
undo_policy reply = record { policy = shown_policy reply }

-- the operation with these data
abbrev pub policy_in : List ℕ → SetPowerPolicy
policy_in body = record { policy = byte_at body 0 }

-- ---- the kind

abbrev pub words : KindWords (Unit {0}) SetPowerPolicy
words = record {
  name = λ alone. key.PowerPolicy;
  key_of = λ op. tt;
  get_asked = λ alone. ipmi_request chassis get_chassis_status [];
  set_data = λ op. op.policy ∷ [];
  set_asked = λ op. ipmi_request chassis set_power_restore_policy (op.policy ∷ []);
  -- the Set reply names the supported policies
  set_reply = λ op. supported ∷ [];
  next_live = λ op live. live;
  is_reply = λ op reply. length reply ≡ 3;
  -- no request sets the policy 3
  restorable = λ op reply. shown_policy reply ≢ 3;
  inverse = λ op reply. if is_known reply then Some (undo_policy reply) else None;
  -- bits 7:3 are ignored
  is_plain = λ op. op.policy < 8;
}

abbrev pub record_words : RecordWords (Unit {0}) SetPowerPolicy
record_words = record {
  is_of = λ alone. Unit {0};
  valid = IsPowerPolicy;
  sets = SetsPolicy;
  outcome = policy_outcome;
  view = status;
  -- the policy alone is configuration: neither the chassis bits nor the other two bytes are
  conf = λ reply. shown_policy reply ∷ [];
  shown = λ value. value;
}

abbrev own_key : (k : Key) → Option ((own : Unit {0}) × (k ≡ words.name own))
own_key key.PowerPolicy = Some (tt, refl)
own_key _ = None

abbrev own_op : (o : Op) → Option ((own : SetPowerPolicy) × (o ≡ op.PowerPolicy own))
own_op (op.PowerPolicy o) = Some (o, refl)
own_op _ = None

abbrev pub place : Place words
place = record {
  op = op.PowerPolicy;
  own_key = own_key;
  own_op = own_op;
  finds_key = λ own. refl;
  finds_op = λ o. refl;
}
