-- The watchdog timer, as a kind of record (IPMI 2.0).
use Rattle.std.specs.Prelude.{◌≡◌, ℕ, ◌+◌, ◌-◌, ◌*◌, ◌/◌, ◌%◌, ◌^◌, ◌<◌, ◌≤◌, List, [], ◌∷◌, drop, length, slice_index, bit_and, bit_or, nat_le, ◌&&◌, ◌==◌, not, Bool, true, false, IsFalse, if◌then◌else◌, Result, Ok, Err, Option, Some, None, refl}
use Rattle.std.specs.Int.{w16, to_le_bytes, from_le_bytes}
use Rattle.two_wire.specs.Codes.{invalid_data_field}
use Rattle.record_base.specs.declared.key.Key.{Key}
use Rattle.record_base.specs.declared.key.Key.TheVariants as key
use Rattle.record_base.specs.declared.op.Op.{Op}
use Rattle.record_base.specs.declared.op.Op.TheVariants as op
use Rattle.record_base.specs.declared.watchdog.SetWatchdog.{SetWatchdog}
use Rattle.record_base.specs.declared.live.Live.{Live}
use Rattle.record_base.specs.Kind.{KindWords, RecordWords}
use Rattle.record_base.specs.AllKinds.{Place}
use Rattle.record_base.specs.Masks.{has}
use Rattle.record_base.specs.Watchdog.{IsWatchdog, watchdog_value}
use Rattle.record_base.specs.Requests.{application, ipmi_request, byte_at}

-- the Set command and the Get command
abbrev pub set_watchdog_timer : ℕ
set_watchdog_timer = 0x24

abbrev pub get_watchdog_timer : ℕ
get_watchdog_timer = 0x25

-- ---- the bytes

-- the use in bits 2:0 of a timer use byte
abbrev pub use_in : ℕ → ℕ
use_in timer_use = timer_use % 8

-- the bits of a timer use byte that a Set keeps: don't log in bit 7 and the use in bits 2:0
abbrev pub kept_use : ℕ → ℕ
kept_use timer_use = timer_use / 128 * 128 + use_in timer_use

-- a timer use byte with 0 in bit 6
abbrev pub without_bit_6 : ℕ → ℕ
without_bit_6 timer_use = timer_use / 128 * 128 + timer_use % 64

-- the interrupt in bits 6:4 and the action in bits 2:0 of an actions byte
abbrev pub interrupt_in : ℕ → ℕ
interrupt_in actions = actions / 16 % 8

abbrev pub action_in : ℕ → ℕ
action_in actions = actions % 8

-- the bits of an actions byte that a Set keeps
abbrev pub kept_actions : ℕ → ℕ
kept_actions actions = interrupt_in actions * 16 + action_in actions

-- ---- Set Watchdog Timer

-- the settings are the operation's: don't log and the use, with 0 in bits 6:3 beside them, the interrupt and the action, with 0 in bits 7
-- and 3, the pre-timeout interval, and the countdown's first number, low byte first
pub record HasSettings (op : SetWatchdog) (value : List ℕ) : Type 0 where
  pub five : length value ≡ 5
  pub same_log : slice_index value 0 / 128 ≡ op.timer_use / 128
  pub same_use : use_in (slice_index value 0) ≡ use_in op.timer_use
  pub no_other_use : slice_index value 0 % 128 < 8
  pub same_interrupt : interrupt_in (slice_index value 1) ≡ interrupt_in op.actions
  pub same_action : action_in (slice_index value 1) ≡ action_in op.actions
  pub no_bit_7 : slice_index value 1 < 128
  pub no_bit_3 : slice_index value 1 % 16 < 8
  pub pre_timeout : slice_index value 2 ≡ op.pre_timeout
  pub initial : drop 3 value ≡ to_le_bytes w16 op.initial

-- the operation has a use from 1 to 5, and an interrupt and an action of at most 3, and its settings become the value
pub record SetsWatchdog (op : SetWatchdog) (new : List ℕ) : Type 0 where
  pub a_use : 1 ≤ use_in op.timer_use
  pub known_use : use_in op.timer_use ≤ 5
  pub known_interrupt : interrupt_in op.actions ≤ 3
  pub known_action : action_in op.actions ≤ 3
  pub settings : HasSettings op new

-- ---- the same as functions

-- the settings of the operation's bytes
abbrev pub settings_of : SetWatchdog → List ℕ
settings_of op = watchdog_value (kept_use op.timer_use) (kept_actions op.actions) op.pre_timeout op.initial

-- the test of the bytes
abbrev pub is_accepted : SetWatchdog → Bool
is_accepted op = nat_le 1 (use_in op.timer_use) && nat_le (use_in op.timer_use) 5 && nat_le (interrupt_in op.actions) 3 && nat_le (action_in op.actions) 3

-- the new settings, or CCh
abbrev pub watchdog_outcome : SetWatchdog → Result (List ℕ) ℕ
watchdog_outcome op = if is_accepted op then Ok (settings_of op) else Err invalid_data_field

-- the flags of the first byte that the second doesn't name
abbrev pub without : ℕ → ℕ → ℕ
without flags named = bit_and flags (255 - named)

-- a flag is set after a Set exactly where it was set before and the Set doesn't name it
abbrev pub ClearsNamed : Type 0
ClearsNamed = (flags named place : ℕ) → named < 2 ^ 8 → place < 8 → has (without flags named) place ≡ (has flags place && not (has named place))

-- the countdown begins anew, the timer goes on only where bit 6 is set, and the operation clears the named flags
abbrev pub live_after_set : SetWatchdog → Live → Live
live_after_set op live = record {
  chassis = live.chassis;
  countdown = op.initial;
  expired = without live.expired op.flags_to_clear;
  running = live.running && has op.timer_use 6;
  enabled_users = live.enabled_users;
}

-- the data of the request, the low byte of the countdown first
abbrev pub watchdog_body : SetWatchdog → List ℕ
watchdog_body op = op.timer_use ∷ op.actions ∷ op.pre_timeout ∷ op.flags_to_clear ∷ op.initial % 256 ∷ op.initial / 256 ∷ []

-- the operation with these data
abbrev pub watchdog_in : List ℕ → SetWatchdog
watchdog_in body = record {
  timer_use = byte_at body 0;
  actions = byte_at body 1;
  pre_timeout = byte_at body 2;
  flags_to_clear = byte_at body 3;
  initial = byte_at body 4 + 256 * byte_at body 5;
}

-- ---- Get Watchdog Timer

-- the timer use byte, with bit 6 for whether the timer runs
abbrev pub shown_use : ℕ → Bool → ℕ
shown_use timer_use running = without_bit_6 timer_use + (if running then 64 else 0)

-- the reply: the settings, with the flags after the pre-timeout interval, and the rest of the countdown
abbrev pub watchdog_view : List ℕ → Live → List ℕ
watchdog_view value live =
    shown_use (slice_index value 0) live.running ∷ slice_index value 1 ∷ slice_index value 2 ∷ live.expired
    ∷ slice_index value 3 ∷ slice_index value 4 ∷ to_le_bytes w16 live.countdown

-- the reply without the running bit, the flags and the countdown
abbrev pub configuration : List ℕ → List ℕ
configuration reply =
    without_bit_6 (slice_index reply 0) ∷ slice_index reply 1 ∷ slice_index reply 2 ∷ slice_index reply 4 ∷ slice_index reply 5 ∷ []

-- a reply of a stopped timer whose settings have a use
pub record IsStopped (reply : List ℕ) : Type 0 where
  pub not_running : IsFalse (has (slice_index reply 0) 6)
  pub a_use : 1 ≤ use_in (slice_index reply 0)
  pub known_use : use_in (slice_index reply 0) ≤ 5

-- the test that the data are a reply of a stopped timer whose settings have a use
abbrev pub is_stopped : List ℕ → Bool
is_stopped reply = length reply == 8 && not (has (slice_index reply 0) 6) && nat_le 1 (use_in (slice_index reply 0)) && nat_le (use_in (slice_index reply 0)) 5

-- the operation that sets the settings of the reply: don't stop is 0, and it clears no flag
abbrev pub undo_watchdog : List ℕ → SetWatchdog
undo_watchdog reply = record {
  timer_use = kept_use (slice_index reply 0);
  actions = kept_actions (slice_index reply 1);
  pre_timeout = slice_index reply 2;
  flags_to_clear = 0;
  initial = from_le_bytes w16 (slice_index reply 4 ∷ slice_index reply 5 ∷ []);
}

-- ---- Reset Watchdog Timer

-- the settings have a use
abbrev pub WasSet : List ℕ → Type 0
WasSet value = 1 ≤ use_in (slice_index value 0)

-- the test that the settings have a use
abbrev pub was_set : List ℕ → Bool
was_set value = nat_le 1 (use_in (slice_index value 0))

-- the countdown begins anew, and the timer runs
abbrev pub live_after_reset : List ℕ → Live → Live
live_after_reset value live = record {
  chassis = live.chassis;
  countdown = from_le_bytes w16 (slice_index value 3 ∷ slice_index value 4 ∷ []);
  expired = live.expired;
  running = true;
  enabled_users = live.enabled_users;
}

-- ---- the countdown

-- a countdown that has come to its end stops the timer, and sets the expiration flag whose bit is the timer's use
abbrev pub live_at_end : List ℕ → Live → Live
live_at_end value live =
    if live.countdown == 0 then record live { running = false; expired = bit_or live.expired (2 ^ use_in (slice_index value 0)) } else live

-- a tenth of a second later: the countdown of a timer that runs has lost one, but isn't below 0
abbrev pub live_after_tick : List ℕ → Live → Live
live_after_tick value live = if live.running then live_at_end value (record live { countdown = live.countdown - 1 }) else live

-- ---- the kind

abbrev pub words : KindWords (Unit {0}) SetWatchdog
words = record {
  name = λ alone. key.Watchdog;
  key_of = λ op. tt;
  get_asked = λ alone. ipmi_request application get_watchdog_timer [];
  set_data = watchdog_body;
  set_asked = λ op. ipmi_request application set_watchdog_timer (watchdog_body op);
  -- the Set reply has no data
  set_reply = λ op. [];
  next_live = live_after_set;
  is_reply = λ op reply. length reply ≡ 8;
  restorable = λ op. IsStopped;
  inverse = λ op reply. if is_stopped reply then Some (undo_watchdog reply) else None;
  -- bits 5:3 of the timer use, and bits 7 and 3 of the actions are ignored
  is_plain = λ op. (op.timer_use % 64 < 8) × (op.actions < 128) × (op.actions % 16 < 8);
}

abbrev pub record_words : RecordWords (Unit {0}) SetWatchdog
record_words = record {
  is_of = λ alone. Unit {0};
  valid = IsWatchdog;
  -- the new settings are the operation's, whatever the old ones are
  sets = λ op old new. SetsWatchdog op new;
  outcome = λ op old. watchdog_outcome op;
  view = watchdog_view;
  conf = configuration;
  shown = λ value. value;
}

abbrev own_key : (k : Key) → Option ((own : Unit {0}) × (k ≡ words.name own))
own_key key.Watchdog = Some (tt, refl)
own_key _ = None

abbrev own_op : (o : Op) → Option ((own : SetWatchdog) × (o ≡ op.Watchdog own))
own_op (op.Watchdog o) = Some (o, refl)
own_op _ = None

abbrev pub place : Place words
place = record {
  op = op.Watchdog;
  own_key = own_key;
  own_op = own_op;
  finds_key = λ own. refl;
  finds_op = λ o. refl;
}
