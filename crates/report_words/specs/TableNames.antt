-- The names of records' sensors and attributes.
use Rattle.std.specs.Prelude.{◌≡◌, ◌<◌, ℕ, Bool, true, false, ◌==◌, not, List, [], ◌∷◌, ◌++◌, length, get_or, set, Option, Some, None, if◌then◌else◌}
use Rattle.std.specs.List.{All, find, list_any, position}
use Rattle.std.specs.Option.{option_map}
use Rattle.record_base.specs.declared.key.Key.{Key}
use Rattle.record_base.specs.declared.key.Key.TheVariants as key
use Rattle.report_words.specs.declared.table_names.AttributeName.{AttributeName}
use Rattle.report_words.specs.declared.table_names.Names.{Names}
use Rattle.report_words.specs.declared.table_names.SensorName.{SensorName}
use Rattle.report_words.specs.AttributeNames.{HasName}

-- ---- of what a record is

-- the sensor of which the record is, if it is a sensor's
abbrev pub sensor_of : Key → Option ℕ
sensor_of (key.Thresholds number) = Some number
sensor_of (key.Hysteresis number) = Some number
sensor_of (key.EventEnable number) = Some number
sensor_of _ = None

-- the attribute whose value it is, if it is one
abbrev pub attribute_of : Key → Option ℕ
attribute_of (key.BiosAttribute handle) = Some handle
attribute_of _ = None

-- ---- the names that are known

abbrev pub is_of_number : ℕ → SensorName → Bool
is_of_number number sensor = sensor.number == number

abbrev pub is_of_handle : ℕ → AttributeName → Bool
is_of_handle handle attribute = attribute.handle == handle

-- the name that is kept of a sensor
abbrev pub name_of_sensor : Option SensorName → Option (List ℕ)
name_of_sensor (Some sensor) = sensor.name
name_of_sensor None = None

-- of an attribute
abbrev pub name_of_attribute : Option AttributeName → Option (List ℕ)
name_of_attribute (Some attribute) = option_map (λ text. text.items) attribute.name
name_of_attribute None = None

-- the name of the record's sensor or attribute
abbrev pub name_of : Names → Key → Option (List ℕ)
name_of names (key.Thresholds number) = name_of_sensor (find (is_of_number number) names.sensors.items)
name_of names (key.Hysteresis number) = name_of_sensor (find (is_of_number number) names.sensors.items)
name_of names (key.EventEnable number) = name_of_sensor (find (is_of_number number) names.sensors.items)
name_of names (key.BiosAttribute handle) = name_of_attribute (find (is_of_handle handle) names.attributes.items)
name_of names _ = None

-- no name is known
abbrev pub KnowsNone : Names → Type 0
KnowsNone names = (key : Key) → name_of names key ≡ None

-- ---- the names that are wanted

-- a sensor whose record wasn't read
abbrev pub unread_sensor : ℕ → SensorName
unread_sensor number = record { number = number; read = false; name = None }

abbrev pub unnamed_attribute : ℕ → AttributeName
unnamed_attribute handle = record { handle = handle; name = None }

-- the name of one more sensor is wanted, where it isn't already
abbrev pub with_sensor : Option ℕ → List SensorName → List SensorName
with_sensor (Some number) sensors = if list_any (is_of_number number) sensors then sensors else sensors ++ unread_sensor number ∷ []
with_sensor None sensors = sensors

-- of one more attribute
abbrev pub with_attribute : Option ℕ → List AttributeName → List AttributeName
with_attribute (Some handle) attributes = if list_any (is_of_handle handle) attributes then attributes else attributes ++ unnamed_attribute handle ∷ []
with_attribute None attributes = attributes

-- the name that the record has is wanted
pub record WantsOf (key : Key) (old new : Names) : Type 0 where
  pub sensors : new.sensors.items ≡ with_sensor (sensor_of key) old.sensors.items
  pub attributes : new.attributes.items ≡ with_attribute (attribute_of key) old.attributes.items

abbrev pub is_at : ℕ → Option ℕ → Bool
is_at number (Some other) = other == number
is_at number None = false

-- a sensor's name is wanted where one of the records is the sensor's, and likewise an attribute's; none was read, and none is known
pub record AreWanted (keys : List Key) (names : Names) : Type 0 where
  pub sensors : (number : ℕ) → list_any (is_of_number number) names.sensors.items ≡ list_any (λ key. is_at number (sensor_of key)) keys
  pub attributes : (handle : ℕ) → list_any (is_of_handle handle) names.attributes.items ≡ list_any (λ key. is_at handle (attribute_of key)) keys
  pub unread : All (λ sensor. sensor ≡ unread_sensor sensor.number) names.sensors.items
  pub unnamed : All (λ attribute. attribute ≡ unnamed_attribute attribute.handle) names.attributes.items

-- a sensor's record wasn't read
abbrev pub is_unread : SensorName → Bool
is_unread sensor = not sensor.read

-- ---- names that are read

-- the sensor of this place was read, and has this name or none
abbrev pub read_at : Option ℕ → SensorName → List SensorName → List SensorName
read_at (Some place) sensor sensors = set sensors place sensor
read_at None sensor sensors = sensors

-- the first entry of the number is the sensor's
abbrev pub with_name : (number : ℕ) → Option (List ℕ) → List SensorName → List SensorName
with_name number name sensors = read_at (position (is_of_number number) sensors) (record { number = number; read = true; name = name }) sensors

-- the attribute has the name that the tables give it; where they give none it has what it had
abbrev pub NamedBy : Option (List ℕ) → (was is : AttributeName) → Type 0
NamedBy (Some text) was is = (is.handle ≡ was.handle) × (name_of_attribute (Some is) ≡ Some text)
NamedBy None was is = is ≡ was

abbrev pub IsNamedByTables : (attributes strings : List ℕ) → (was is : AttributeName) → Type 0
IsNamedByTables attributes strings was is = (name : Option (List ℕ)) × HasName attributes strings was.handle name × NamedBy name was is

-- so each has
pub record AreNamed (attributes strings : List ℕ) (old new : List AttributeName) : Type 0 where
  pub as_many : length new ≡ length old
  pub each : (place : ℕ) (any : AttributeName) → place < length old → IsNamedByTables attributes strings (get_or old place any) (get_or new place any)
