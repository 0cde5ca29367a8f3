-- The type of a field, and its range.
use Rattle.std.specs.Prelude.{◌==◌, ℕ, ◌/◌, ◌%◌, Bool, true, false, ◌&&◌, ◌||◌, not, nat_le, nat_lt, List, [], ◌∷◌, length, slice_index, Option, Some, None, is_some, option_and_then, Result, Ok, Err, ◌+◌, if◌then◌else◌, codes}
use Rattle.std.specs.Str.{bytes_eq}
use Rattle.std.specs.List.{list_all, list_any}
use Rattle.record_base.specs.Masks.{has, all_below}
use Rattle.record_base.specs.Sensor.Thresholds.{place_of}
use Rattle.record_base.specs.Sensor.EventEnable.{are_within}
use Rattle.record_base.specs.GlobalEnables.{are_enables}
use Rattle.record_base.specs.UserAccess.{is_limit}
use Rattle.record_base.specs.UserSizes.{is_privilege}
use Rattle.record_base.specs.BootParam.{parameter_at}
use Rattle.record_base.specs.declared.boot_param.BootParameter.{BootParameter}
use Rattle.record_base.specs.declared.boot_param.BootParameter.TheVariants as parameter
use Rattle.record_base.specs.Sdr.{sdr_id}
use Rattle.record_base.specs.AttributeSizes.{most_indexes, most_text}
use Rattle.record_base.specs.BoardSizes.{most_state_fields}
use Rattle.hex.specs.Hex.{decode_of}
use Rattle.hex.specs.declared.error.FromHexError.{FromHexError}
use Rattle.toml.specs.Data.{Data, Members, as_str, as_integer, as_bool, as_table}
use Rattle.text_fields.specs.declared.field.Field.{Field}
use Rattle.text_fields.specs.declared.field.Field.TheVariants as field
use Rattle.text_fields.specs.declared.row.Shape.{Shape}
use Rattle.text_fields.specs.declared.row.Shape.TheVariants as shape
use Rattle.text_fields.specs.Trees.{in_field, lacks, members, natural, naturals_in, bytes_in, number_in, members_in, or_none}
use Rattle.text_fields.specs.Numeric.{size_in, sized, sized_in, in_order}
use Rattle.text_fields.specs.States.{change_of}
use Rattle.text_fields.specs.Users.{name_of, are_names}
use Rattle.text_fields.specs.Channels.{is_access, is_channel, is_user_byte, store_of}
use Rattle.text_fields.specs.Lan.{is_lan_number, is_lan_value}
use Rattle.text_fields.specs.Attributes.{text_of, string_of, is_kind, are_values, are_indexes, is_as_long, is_stepped}
use Rattle.record_base.specs.declared.watchdog.Watchdog.{Watchdog}

-- the value is an integer
abbrev pub is_integer : Data → Bool
is_integer d = is_some (as_integer d)

-- the value is a table
abbrev pub is_table : Data → Bool
is_table d = is_some (as_table d)

-- the value is a text
abbrev pub is_text : Data → Bool
is_text d = is_some (as_str d)

-- there is a value, and it passes
abbrev pub passes : {A : Type 0} → (A → Bool) → Option A → Bool
passes test (Some x) = test x
passes test None = false

-- the table has this text in the field
abbrev pub has_text : Field → List ℕ → Members → Bool
has_text field text tree = passes (λ found. bytes_eq found text) (option_and_then as_str (in_field field tree))

-- the value is an array, each of whose members passes
abbrev pub is_array_of : (Data → Bool) → Data → Bool
is_array_of test d = passes (list_all test) (members d)

-- the value is of the shape's type
abbrev pub has_type : Shape → Data → Bool
has_type (shape.Number least most) d = is_integer d
has_type shape.Digits d = is_integer d
has_type shape.Enables d = is_integer d
has_type shape.Pair d = is_array_of is_integer d
has_type shape.BootFlags d = is_array_of is_integer d
has_type shape.Thresholds d = is_array_of is_integer d
has_type shape.Flags d = is_integer d
has_type shape.Events d = is_integer d
has_type shape.Watchdog d = is_array_of is_integer d
has_type (shape.Records most) d = is_array_of is_text d
has_type shape.Table d = is_table d
has_type (shape.Tables most) d = is_array_of is_table d
has_type shape.Flag d = is_some (as_bool d)
has_type shape.Text d = is_some (as_str d)
has_type shape.Select d = is_some (as_str d)
has_type shape.Offsets d = is_array_of is_integer d
has_type shape.BootData d = is_array_of is_integer d
has_type shape.FewIndexes d = is_array_of is_integer d
has_type shape.AttributeText d = is_text d
has_type shape.Natural d = is_integer d
has_type shape.Sized d = is_integer d
has_type shape.Upper d = is_integer d
has_type shape.Current d = is_integer d
has_type shape.Name d = is_text d
has_type shape.Names d = is_array_of is_text d
has_type shape.UserLimit d = is_integer d
has_type shape.Store d = is_text d
has_type shape.Access d = is_integer d
has_type shape.Accesses d = is_array_of is_integer d
has_type shape.Limits d = is_array_of is_integer d
has_type (shape.UserBytes users) d = is_array_of is_integer d
has_type shape.ChannelNumber d = is_integer d
has_type shape.StateLists d = is_array_of (is_array_of is_integer) d
has_type shape.States d = is_array_of is_integer d
has_type shape.StateChanges d = is_array_of is_integer d
has_type shape.ShortText d = is_text d
has_type shape.AttributeKind d = is_text d
has_type shape.Values d = is_array_of is_text d
has_type shape.Indexes d = is_array_of is_integer d
has_type shape.MostLength d = is_integer d
has_type shape.SizedText d = is_text d
has_type shape.UpperNatural d = is_integer d
has_type shape.Stepped d = is_integer d
has_type (shape.Lan named) d = if is_lan_number named then is_integer d else is_array_of is_integer d

-- ---- ranges

-- a number from the least to the most
abbrev pub is_between : ℕ → ℕ → ℕ → Bool
is_between least most n = nat_le least n && nat_le n most

-- a byte of two decimal digits, the tens in its upper half
abbrev pub are_digits : ℕ → Bool
are_digits n = nat_lt (n / 16) 10 && nat_lt (n % 16) 10

-- a byte that global enables can have
abbrev pub is_enables_byte : ℕ → Bool
is_enables_byte n = nat_lt n 256 && are_enables n

-- masks of places 0 to 5
abbrev pub are_masks : Option ℕ → Option ℕ → Bool
are_masks (Some readable) (Some settable) = nat_lt readable 64 && nat_lt settable 64
are_masks _ _ = false

-- a sensor of these masks has the threshold at this place: it can be read or set
abbrev pub is_there : ℕ → ℕ → ℕ → Bool
is_there readable settable place = has readable place || has settable place

-- the threshold of rank low is not above that of rank high, where the sensor has both
abbrev pub are_ordered : ℕ → ℕ → List ℕ → ℕ → ℕ → Bool
are_ordered readable settable values high low =
    not (is_there readable settable (place_of low))
    || (not (is_there readable settable (place_of high)) || nat_le (slice_index values (place_of low)) (slice_index values (place_of high)))

-- six thresholds that a sensor of these masks can have: 0 where it has none, and in order
abbrev pub are_thresholds : ℕ → ℕ → List ℕ → Bool
are_thresholds readable settable values =
    all_below (λ place. is_there readable settable place || (slice_index values place == 0)) 6
    && all_below (λ high. all_below (are_ordered readable settable values high) high) 6

-- a byte with no bits but bits 7 and 6
abbrev pub are_flags : ℕ → Bool
are_flags n = nat_lt n 256 && (n % 64 == 0)

-- two masks of sixteen events: each event of the second is supported, by the first
abbrev pub are_supported : ℕ → ℕ → Bool
are_supported supported events = (nat_lt supported 65536 && nat_lt events 65536) && are_within events supported

-- the bytes are a sensor data record of at most 64
abbrev pub is_record : List ℕ → Bool
is_record bytes =
    (nat_le 5 (length bytes) && nat_le (length bytes) 64)
    && ((length bytes == 5 + slice_index bytes 4) && (not (sdr_id bytes == 0x0000) && not (sdr_id bytes == 0xFFFF)))

-- the record whose bytes are these, if they are one
abbrev pub record_of : Result (List ℕ) FromHexError → Option (List ℕ)
record_of (Ok bytes) = if is_record bytes then Some bytes else None
record_of (Err why) = None

-- the sensor data record that a text says in hexadecimal digits
abbrev pub record_in : Data → Option (List ℕ)
record_in d = option_and_then (λ text. record_of (decode_of text)) (as_str d)

-- the settings of a watchdog timer: a use of at most 5 in bits 2:0 and bit 7, an interrupt and an action of at most 3, a
-- byte, and two bytes
abbrev pub are_settings : List ℕ → Bool
are_settings (timer_use ∷ actions ∷ pre_timeout ∷ initial ∷ []) =
    (nat_lt timer_use 256 && nat_le (timer_use % 128) 5)
    && ((nat_lt actions 256 && (nat_le (actions / 16) 3 && nat_le (actions % 16) 3))
    && (nat_lt pre_timeout 256 && nat_lt initial 65536))
are_settings _ = false

-- the settings of a watchdog, as a file lists them
abbrev pub settings : Watchdog → List ℕ
settings watchdog = watchdog.timer_use ∷ watchdog.actions ∷ watchdog.pre_timeout ∷ watchdog.initial ∷ []

-- what becomes of events
abbrev pub is_selection : List ℕ → Bool
is_selection text = bytes_eq text (codes "leave") || (bytes_eq text (codes "enable") || bytes_eq text (codes "disable"))

-- the offset of an event
abbrev pub is_offset : Data → Bool
is_offset d = passes (is_between 0 11) (natural d)

-- no bits but bits 4:0 of the first byte
abbrev pub are_five_bits : List ℕ → Bool
are_five_bits bytes = nat_lt (slice_index bytes 0) 32

-- data of a boot parameter: bits 4:0, a mask and bits, or five bytes
abbrev pub are_boot_data : BootParameter → Data → Bool
are_boot_data parameter.ValidBitClearing d = passes are_five_bits (bytes_in 1 d)
are_boot_data parameter.InfoAcknowledge d = is_some (bytes_in 2 d)
are_boot_data parameter.Flags d = is_some (bytes_in 5 d)

-- the boot parameter that an item names
abbrev pub parameter_in : Members → Option BootParameter
parameter_in tree = option_and_then parameter_at (number_in field.Param tree)

-- a number, 0 where there is none
abbrev pub or_zero : Option ℕ → ℕ
or_zero (Some n) = n
or_zero None = 0

-- what a user may do on a channel
abbrev pub may_do : Data → Bool
may_do d = passes is_user_byte (natural d)

-- the value is this number
abbrev pub is_number : ℕ → Data → Bool
is_number n d = passes (λ m. m == n) (natural d)

-- the list has this number
abbrev pub is_listed : List Data → ℕ → Bool
is_listed ds n = list_any (is_number n) ds

-- a state that a field of a state effecter can be in
abbrev pub is_state : Data → Bool
is_state d = passes (is_between 0 255) (natural d)

-- a list of such states
abbrev pub is_state_list : Data → Bool
is_state_list d = list_all is_state (or_none (members d))

-- a list for each of 1 to 8 fields
abbrev pub are_state_lists : List Data → Bool
are_state_lists ds = is_between 1 most_state_fields (length ds) && list_all is_state_list ds

-- a field that can be in the listed states can be in this one
abbrev pub can_be : Data → Data → Bool
can_be states d = passes (is_listed (or_none (members states))) (natural d)

-- there is a state for each field, which can be in it
abbrev pub are_present : List Data → List Data → Bool
are_present [] [] = true
are_present (states ∷ fields) (d ∷ ds) = can_be states d && are_present fields ds
are_present _ _ = false

-- what becomes of each of 1 to 8 fields
abbrev pub are_changes : List Data → Bool
are_changes ds = is_between 1 most_state_fields (length ds) && list_all (λ d. is_some (change_of d)) ds

-- a length that is the most of an item: at most `most_text` bytes, and not below its least
abbrev pub is_most : Members → ℕ → Bool
is_most tree n = passes (λ least. is_between least most_text n) (number_in field.Least tree)

-- a text of a length from the item's least to its most
abbrev pub is_sized_text : Members → List ℕ → Bool
is_sized_text tree text = passes (λ least. passes (λ most. is_as_long least most text) (number_in field.Most tree)) (number_in field.Least tree)

-- a number that is not below the item's lower bound
abbrev pub is_upper_natural : Members → ℕ → Bool
is_upper_natural tree n = passes (λ lower. nat_le lower n) (number_in field.Lower tree)

-- a number within the item's bounds, by steps of its increment
abbrev pub is_step : Members → ℕ → Bool
is_step tree n =
    passes (λ lower. passes (λ upper. passes (λ increment. is_stepped lower upper increment n) (number_in field.Increment tree)) (number_in field.Upper tree)) (number_in field.Lower tree)

-- the item can have the value in a field of this shape
abbrev pub is_in_range : Members → Shape → Data → Bool
is_in_range tree (shape.Number least most) d = passes (is_between least most) (natural d)
is_in_range tree shape.Digits d = passes are_digits (natural d)
is_in_range tree shape.Enables d = passes is_enables_byte (natural d)
is_in_range tree shape.Pair d = is_some (bytes_in 2 d)
is_in_range tree shape.BootFlags d = is_some (bytes_in 5 d)
is_in_range tree shape.Thresholds d =
    are_masks (number_in field.Readable tree) (number_in field.Settable tree)
    && passes (are_thresholds (or_zero (number_in field.Readable tree)) (or_zero (number_in field.Settable tree))) (bytes_in 6 d)
is_in_range tree shape.Flags d = passes are_flags (natural d)
is_in_range tree shape.Events d = passes (λ supported. passes (are_supported supported) (natural d)) (number_in field.Supported tree)
is_in_range tree shape.Watchdog d = passes are_settings (naturals_in 4 d)
is_in_range tree (shape.Records most) d = nat_le (length (or_none (members d))) most && list_all (λ text. is_some (record_in text)) (or_none (members d))
is_in_range tree shape.Table d = true
is_in_range tree (shape.Tables most) d = nat_le (length (or_none (members d))) most
is_in_range tree shape.Flag d = true
is_in_range tree shape.Text d = true
is_in_range tree shape.Select d = passes is_selection (as_str d)
is_in_range tree shape.Offsets d = is_array_of is_offset d
is_in_range tree shape.BootData d = passes (λ named. are_boot_data named d) (parameter_in tree)
is_in_range tree shape.FewIndexes d = (lacks field.Text tree && lacks field.Number tree) && are_indexes most_indexes 256 (or_none (members d))
is_in_range tree shape.AttributeText d = lacks field.Number tree && is_some (string_of d)
is_in_range tree shape.Natural d = is_some (natural d)
is_in_range tree shape.Sized d = passes (λ size. is_some (sized size d)) (size_in tree)
is_in_range tree shape.Upper d = passes (λ size. in_order size (sized_in size field.Lower tree) (sized size d)) (size_in tree)
is_in_range tree shape.Current d =
    passes (λ size. in_order size (sized_in size field.Lower tree) (sized size d) && in_order size (sized size d) (sized_in size field.Upper tree)) (size_in tree)
is_in_range tree shape.Name d = is_some (name_of d)
is_in_range tree shape.Names d = are_names (or_none (members d))
is_in_range tree shape.UserLimit d = passes is_limit (natural d)
is_in_range tree shape.Store d = is_some (store_of d)
is_in_range tree shape.Access d = passes is_access (natural d)
is_in_range tree shape.Accesses d = passes (list_all is_access) (bytes_in 2 d)
is_in_range tree shape.Limits d = passes (list_all is_privilege) (bytes_in 2 d)
is_in_range tree (shape.UserBytes users) d = (length (or_none (members d)) == users) && list_all may_do (or_none (members d))
is_in_range tree shape.ChannelNumber d = passes is_channel (natural d)
is_in_range tree shape.StateLists d = are_state_lists (or_none (members d))
is_in_range tree shape.States d = are_present (members_in field.States tree) (or_none (members d))
is_in_range tree shape.StateChanges d = are_changes (or_none (members d))
is_in_range tree shape.ShortText d = is_some (text_of d)
is_in_range tree shape.AttributeKind d = passes is_kind (as_str d)
is_in_range tree shape.Values d = are_values (or_none (members d))
is_in_range tree shape.Indexes d = are_indexes (length (members_in field.Values tree)) (length (members_in field.Values tree)) (or_none (members d))
is_in_range tree shape.MostLength d = passes (is_most tree) (natural d)
is_in_range tree shape.SizedText d = passes (is_sized_text tree) (as_str d)
is_in_range tree shape.UpperNatural d = passes (is_upper_natural tree) (natural d)
is_in_range tree shape.Stepped d = passes (is_step tree) (natural d)
is_in_range tree (shape.Lan named) d = is_lan_value tree named d
