-- The fields that the value of a record has: of most kinds those of the operation that gives it.
use Rattle.std.specs.Prelude.{ℕ, ◌+◌, ◌*◌, ◌/◌, ◌%◌, ◌==◌, Option, Some, None, List, [], ◌∷◌, if◌then◌else◌, refl}
use Rattle.std.specs.List.{slice_get}
use Rattle.record_base.specs.Masks.{has}
use Rattle.record_base.specs.Requests.{byte_at, bytes_at}
use Rattle.record_base.specs.NumericSize.{number_in}
use Rattle.record_base.specs.Numbers.{low_bits}
use Rattle.record_base.specs.declared.key.Key.{Key}
use Rattle.record_base.specs.declared.key.Key.TheVariants as key
use Rattle.record_base.specs.declared.boot_param.BootFlags.{BootFlags}
use Rattle.record_base.specs.declared.boot_param.BootParameter.{BootParameter}
use Rattle.record_base.specs.declared.boot_param.BootParameter.TheVariants as parameter
use Rattle.record_base.specs.declared.channel.ChannelChange.TheVariants as change
use Rattle.record_base.specs.declared.lan_parameter.LanParameter.{LanParameter}
use Rattle.record_base.specs.declared.lan_parameter.LanParameter.TheVariants as lan_parameter
use Rattle.record_base.specs.declared.lan_parameter.LanChange.{LanChange}
use Rattle.record_base.specs.declared.lan_parameter.LanChange.TheVariants as lan
use Rattle.record_words.specs.declared.field.Field.{Field}
use Rattle.record_words.specs.declared.meaning.Meaning.TheVariants as meaning
use Rattle.record_words.specs.declared.shown.Shown.{Shown}
use Rattle.record_words.specs.declared.shown.Shown.TheVariants.{Kept, Bits, Events, Number, Switch, Means, Name}
use Rattle.record_words.specs.declared.term.Term.TheVariants as term
use Rattle.record_words.specs.FieldWords.{field, numbered, whole}
use Rattle.record_words.specs.SensorFields.{thresholds, hysteresis}
use Rattle.record_words.specs.ControllerFields.{watchdog, global_enables, clearing, acknowledge, boot_flags}
use Rattle.record_words.specs.UserFields.{user_access, channel_access, lan_param}

abbrev pub threshold_values : List ℕ → List Field
threshold_values value = thresholds (record { sensor = 0; mask = 63; values = bytes_at 6 value 0; six = refl })

abbrev pub hysteresis_values : List ℕ → List Field
hysteresis_values value = hysteresis (record { sensor = 0; positive = byte_at value 0; negative = byte_at value 1 })

-- the flags, and the enabled events
abbrev pub enabled_events : List ℕ → List Field
enabled_events value =
    field term.EventMessages (Switch (has (byte_at value 0) 7)) ∷
    field term.Scanning (Switch (has (byte_at value 0) 6)) ∷
    field term.AssertionEvents (Events (byte_at value 1 + 256 * byte_at value 2)) ∷
    field term.DeassertionEvents (Events (byte_at value 3 + 256 * byte_at value 4)) ∷
    []

-- what a policy's number means
abbrev pub policy_value : ℕ → Shown
policy_value number =
    if number == 0 then Means meaning.AlwaysOff
    else (if number == 1 then Means meaning.Previous
    else (if number == 2 then Means meaning.AlwaysOn
    else (if number == 3 then Means meaning.UnknownPolicy else Bits number)))

abbrev pub settings : List ℕ → List Field
settings value = watchdog (record {
  timer_use = byte_at value 0;
  actions = byte_at value 1;
  pre_timeout = byte_at value 2;
  flags_to_clear = 0;
  initial = byte_at value 3 + 256 * byte_at value 4;
})

-- the flags behind the mark
abbrev pub flags_in : List ℕ → BootFlags
flags_in value = record { validity = byte_at value 1; device = byte_at value 2; console = byte_at value 3; overrides = byte_at value 4; instance = byte_at value 5 }

abbrev pub boot_value : BootParameter → List ℕ → List Field
boot_value parameter.ValidBitClearing value = clearing (byte_at value 0 == 1) (Bits (byte_at value 1))
boot_value parameter.InfoAcknowledge value = acknowledge (byte_at value 0 == 1) (Bits (byte_at value 1))
boot_value parameter.Flags value = boot_flags (byte_at value 0 == 1) (flags_in value)

-- the state at a place
abbrev pub state_of : Option ℕ → Shown
state_of None = Kept
state_of (Some state) = Number state

abbrev pub state : List ℕ → ℕ → Shown
state value place = state_of (slice_get value place)

abbrev pub states : List ℕ → List Field
states value =
    numbered 1 (state value 0) ∷
    numbered 2 (state value 1) ∷
    numbered 3 (state value 2) ∷
    numbered 4 (state value 3) ∷
    numbered 5 (state value 4) ∷
    numbered 6 (state value 5) ∷
    numbered 7 (state value 6) ∷
    numbered 8 (state value 7) ∷
    []

abbrev pub access_value : ℕ → List Field
access_value byte = user_access (record { first = 128 + byte / 16 % 8 * 16; user = 0; limit = byte % 16; session_limit = None })

abbrev pub channel_value : (access limit : ℕ) → List Field
channel_value access limit = channel_access (change.Both (low_bits 6 access) (low_bits 6 limit))

-- the change that gives a LAN parameter a value
abbrev pub lan_change : LanParameter → List ℕ → LanChange
lan_change (lan_parameter.Address which) value =
    lan.Address which (record { first = byte_at value 0; second = byte_at value 1; third = byte_at value 2; fourth = byte_at value 3 })
lan_change lan_parameter.AddressSource value = lan.AddressSource (byte_at value 0)
lan_change lan_parameter.Vlan value = lan.Vlan (record { low = byte_at value 0; high = byte_at value 1 })

abbrev pub lan_value : LanParameter → List ℕ → List Field
lan_value parameter value = lan_param (lan_change parameter value)

abbrev pub name_value : List ℕ → List Field
name_value value = field term.UserName (Name (bytes_at 16 value 0)) ∷ []

-- the fields of a value: a line for each kind, and none of an attribute
abbrev pub value_fields : Key → List ℕ → List Field
value_fields (key.Thresholds sensor) value = threshold_values value
value_fields (key.Hysteresis sensor) value = hysteresis_values value
value_fields (key.EventEnable sensor) value = enabled_events value
value_fields key.PowerPolicy value = whole (policy_value (byte_at value 0)) ∷ []
value_fields key.Watchdog value = settings value
value_fields key.GlobalEnables value = global_enables (record { byte = byte_at value 0 })
value_fields (key.BootParam parameter) value = boot_value parameter value
value_fields (key.NumericEffecter effecter) value = whole (Number (number_in value)) ∷ []
value_fields (key.StateEffecter effecter) value = states value
value_fields (key.UserName user) value = name_value value
value_fields (key.UserAccess on) value = access_value (byte_at value 0)
value_fields (key.ChannelAccess stored) value = channel_value (byte_at value 0) (byte_at value 1)
value_fields (key.BiosAttribute handle) value = []
value_fields (key.LanParam on) value = lan_value on.parameter value
