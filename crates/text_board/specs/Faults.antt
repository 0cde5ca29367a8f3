-- The faults of a board file, in the order in which they count.
use Rattle.std.specs.Prelude.{◌≡◌, ◌⊎◌, ℕ, ◌+◌, ◌==◌, Bool, false, ◌||◌, List, [], ◌∷◌, ◌++◌, map, length, Option, Some, None, if◌then◌else◌, option_and_then, codes}
use Rattle.std.specs.List.{list_any}
use Rattle.toml.specs.Data.{Data, Members, as_bool}
use Rattle.text_fields.specs.declared.field.Field.{Field}
use Rattle.text_fields.specs.declared.field.Field.TheVariants as field
use Rattle.text_fields.specs.declared.row.Need.TheVariants as need
use Rattle.text_fields.specs.declared.row.Row.{Row}
use Rattle.text_fields.specs.declared.row.Shape.TheVariants as shape
use Rattle.text_board.specs.declared.tables.TheConstants.{TOP, DEVICE, SENSOR, CHANNEL, SESSIONS, ATTRIBUTE, ENUMERATION, STRING, INTEGER, STATE, NUMERIC}
use Rattle.text_fields.specs.declared.fault.FieldFault.{FieldFault}
use Rattle.text_fields.specs.declared.fault.FieldFault.TheVariants as fault
use Rattle.text_board.specs.declared.fault.FileFault.{FileFault}
use Rattle.text_board.specs.declared.fault.FileFault.TheVariants as file
use Rattle.text_board.specs.declared.fault.Item.{Item}
use Rattle.text_board.specs.declared.fault.Item.TheVariants as item
use Rattle.text_fields.specs.Trees.{in_field, number_in, table_of, table_in, members_in}
use Rattle.record_base.specs.Sdr.{sdr_id}
use Rattle.text_fields.specs.Ranges.{passes, has_text, record_in}
use Rattle.text_fields.specs.Faults.{field_faults, first}
use Rattle.text_board.specs.LanItems.{listed_in, lan_rows, lans_in}

-- the fault of an item of a board file
abbrev pub fault_at : Item → FieldFault → FileFault
fault_at item (fault.Missing field) = file.Missing (record { item = item; field = field })
fault_at item (fault.WrongType field) = file.WrongType (record { item = item; field = field })
fault_at item (fault.Range field) = file.Range (record { item = item; field = field })

-- the faults of an item's own fields
abbrev pub own_faults : Item → (Members → List Row) → Members → List FileFault
own_faults item rows tree = map (fault_at item) (field_faults (rows tree) tree)

-- memory ran out, or the fault is the first of these
abbrev pub IsFirstFault : List FileFault → FileFault → Type 0
IsFirstFault faults why = (why ≡ file.Memory) ⊎ (first faults ≡ Some why)

-- the two have one number
abbrev pub same_number : Option ℕ → Option ℕ → Bool
same_number (Some a) (Some b) = a == b
same_number _ _ = false

-- one of the tables before has the number that this one has in the field
abbrev pub is_taken : Field → List Data → Data → Bool
is_taken field before d = list_any (λ other. same_number (number_in field (table_of other)) (number_in field (table_of d))) before

-- the faults of an array's items, behind those before: of each its fields' faults, and then Twice where its number is taken
abbrev pub item_faults : (ℕ → Item) → (Members → List Row) → Field → List Data → List Data → List FileFault
item_faults item_at rows named before [] = []
item_faults item_at rows named before (d ∷ ds) =
    own_faults (item_at (length before)) rows (table_of d)
    ++ ((if is_taken named before d then file.Twice (record { item = item_at (length before); field = named }) ∷ [] else [])
    ++ item_faults item_at rows named (before ++ d ∷ []) ds)

-- the faults of the sensors that an array has
abbrev pub sensor_faults : List Data → List FileFault
sensor_faults ds = item_faults item.Sensor (λ tree. SENSOR) field.Number [] ds

-- a channel has sessions
abbrev pub has_sessions : Members → Bool
has_sessions tree = passes (λ sessions. sessions) (option_and_then as_bool (in_field field.Sessions tree))

-- the fields of a channel with sessions, in a file of so many users
abbrev pub session_rows : ℕ → List Row
session_rows users = SESSIONS ++ record { 0 = field.Users; 1 = shape.UserBytes users; 2 = need.Always } ∷ []

-- the fields of a channel
abbrev pub channel_rows : ℕ → Members → List Row
channel_rows users tree = if has_sessions tree then session_rows users else CHANNEL

-- the faults of the channels that an array has, in a file of so many users
abbrev pub channel_faults : ℕ → List Data → List FileFault
channel_faults users ds = item_faults item.Channel (channel_rows users) field.Number [] ds

-- how many users a file has
abbrev pub users_in : Members → ℕ
users_in tree = length (members_in field.Users tree)

-- the faults of the LAN parameters that a file has
abbrev pub lan_faults : Members → List FileFault
lan_faults tree = item_faults item.Lan (λ _. lan_rows (listed_in tree)) field.Channel [] (lans_in tree)

-- the fields of an attribute: those of the kind that it names
abbrev pub attribute_rows : Members → List Row
attribute_rows tree =
    if has_text field.Kind (codes "enumeration") tree then ENUMERATION
    else (if has_text field.Kind (codes "string") tree then STRING
    else (if has_text field.Kind (codes "integer") tree then INTEGER
    else ATTRIBUTE))

-- the faults of the attribute that a table is, at a place of its array
abbrev pub attribute_faults_at : ℕ → Members → List FileFault
attribute_faults_at place tree = own_faults (item.Attribute place) attribute_rows tree

-- the faults of the attributes that an array has, from a place on
abbrev pub attribute_faults_from : ℕ → List Data → List FileFault
attribute_faults_from place [] = []
attribute_faults_from place (d ∷ ds) = attribute_faults_at place (table_of d) ++ attribute_faults_from (place + 1) ds

-- the faults of the attributes that an array has
abbrev pub attribute_faults : List Data → List FileFault
attribute_faults ds = attribute_faults_from 0 ds

-- the faults of the state effecters that an array has
abbrev pub state_faults : List Data → List FileFault
state_faults ds = item_faults item.State (λ tree. STATE) field.Id [] ds

-- the faults of the numeric effecters that an array has
abbrev pub numeric_faults : List Data → List FileFault
numeric_faults ds = item_faults item.Numeric (λ tree. NUMERIC) field.Id [] ds

-- a record's id
abbrev pub id_of : Option (List ℕ) → ℕ
id_of (Some bytes) = sdr_id bytes
id_of None = 0

-- one of the records has the id of one before it
abbrev pub has_twice : List ℕ → Bool
has_twice [] = false
has_twice (id ∷ ids) = list_any (λ other. other == id) ids || has_twice ids

-- the ids of the sensor data records that an array has
abbrev pub ids_in : List Data → List ℕ
ids_in [] = []
ids_in (d ∷ ds) = id_of (record_in d) ∷ ids_in ds

-- the fault of sensor data records of which two have one id
abbrev pub record_faults : List Data → List FileFault
record_faults ds = if has_twice (ids_in ds) then file.Twice (record { item = item.Top; field = field.Sdr }) ∷ [] else []

-- the faults of a file's sensor data records and of its `[device]`
unfoldable pub own_part_faults : Members → List FileFault
own_part_faults tree = record_faults (members_in field.Sdr tree) ++ map (fault_at item.Device) (field_faults DEVICE (table_in field.Device tree))

-- the faults of the items that IPMI reaches: of each `[[sensor]]`, of each `[[channel]]` and of each `[[lan]]`
unfoldable pub ipmi_faults : Members → List FileFault
ipmi_faults tree =
    sensor_faults (members_in field.Sensor tree)
    ++ (channel_faults (users_in tree) (members_in field.Channel tree)
    ++ lan_faults tree)

-- the faults of the items that PLDM reaches: of each `[[attribute]]`, of each `[[state]]` and of each `[[numeric]]`
unfoldable pub pldm_faults : Members → List FileFault
pldm_faults tree =
    attribute_faults (members_in field.Attribute tree)
    ++ (state_faults (members_in field.State tree)
    ++ numeric_faults (members_in field.Numeric tree))

-- the faults of a board file: those of its own fields, of its sensor data records and `[device]`, of the items that IPMI
-- reaches, and of those that PLDM reaches
unfoldable pub board_faults : Members → List FileFault
board_faults tree = map (fault_at item.Top) (field_faults TOP tree) ++ (own_part_faults tree ++ (ipmi_faults tree ++ pldm_faults tree))
