-- The names of records: the lengths of the values, and the places of a sensor's records.
use Rattle.std.specs.Prelude.{ℕ, Bool, Option, Some, None, nat_le, ◌≤◌, ◌==◌, ◌&&◌, ◌||◌}
use Rattle.std.specs.Ordering.{is_eq}
use Rattle.std.specs.declared.cmp.Ordering.{Ordering}
use Rattle.record_base.specs.declared.key.Key.{Key}
use Rattle.record_base.specs.declared.key.Key.TheVariants as key
use Rattle.record_base.specs.declared.key.Lengths.{Lengths}
use Rattle.record_base.specs.declared.key.Storage.{Storage}
use Rattle.record_base.specs.declared.key.Lengths.TheVariants.{Exactly, OfNumber, Between}
use Rattle.record_base.specs.AttributeSizes.{least_value, most_value}
use Rattle.record_base.specs.BoardSizes.{most_state_fields}
use Rattle.record_base.specs.BootParam.{boot_length}
use Rattle.record_base.specs.Lan.{lan_length}
use Rattle.record_base.specs.UserSizes.{user_name_size}
use Rattle.record_base.specs.contracts.key.KeyOrd.TheImpl as key_ord

-- one of these lengths
abbrev pub has_length : Lengths → ℕ → Bool
has_length (Exactly only) size = size == only
has_length OfNumber size = (size == 1) || (size == 2) || (size == 4)
has_length (Between least most) size = nat_le least size && nat_le size most

-- there is such a length, and none is above this number
abbrev pub AreUpTo : ℕ → Lengths → Type 0
AreUpTo bound (Exactly only) = only ≤ bound
AreUpTo bound OfNumber = 4 ≤ bound
AreUpTo bound (Between least most) = (least ≤ most) × (most ≤ bound)

-- what a store asks of the key of a sensor's record: the table of its kind, the sensor's number, and the lengths of a value
abbrev pub in_table : ℕ → ℕ → Lengths → Storage
in_table table sensor lengths = record { lengths = lengths; slot = Some (table, sensor) }

-- the same of another record's key
abbrev pub in_map : Lengths → Storage
in_map lengths = record { lengths = lengths; slot = None }

-- what a store asks of the key: a line for each kind
abbrev pub storage : Key → Storage
storage (key.Thresholds sensor) = in_table 0 sensor (Exactly 6)
storage (key.Hysteresis sensor) = in_table 1 sensor (Exactly 2)
storage (key.EventEnable sensor) = in_table 2 sensor (Exactly 5)
storage key.PowerPolicy = in_map (Exactly 1)
storage key.Watchdog = in_map (Exactly 5)
storage key.GlobalEnables = in_map (Exactly 1)
storage (key.BootParam parameter) = in_map (Exactly (boot_length parameter))
storage (key.NumericEffecter id) = in_map OfNumber
storage (key.StateEffecter id) = in_map (Between 1 most_state_fields)
storage (key.UserName user) = in_map (Exactly user_name_size)
storage (key.UserAccess on) = in_map (Exactly 1)
storage (key.ChannelAccess stored) = in_map (Exactly 2)
storage (key.BiosAttribute handle) = in_map (Between least_value most_value)
storage (key.LanParam on) = in_map (Exactly (lan_length on.parameter))

-- a value of the key's kind may have this length
abbrev pub is_length : Key → ℕ → Bool
is_length key = has_length (storage key).lengths

-- the table that has a sensor's record, and the sensor's number
abbrev pub slot : Key → Option (ℕ × ℕ)
slot key = (storage key).slot

-- the order of keys
abbrev pub key_cmp : Key → Key → Ordering
key_cmp = (key_ord.ghosts).cmp

-- the keys are the same
abbrev pub same_key : Key → Key → Bool
same_key first second = is_eq (key_cmp first second)
