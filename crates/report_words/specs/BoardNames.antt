-- The names that a board gives: its sensors in its sensor data records (IPMI 2.0), and its attributes each its own; and lines with them.
use Rattle.std.specs.Prelude.{ℕ, ◌==◌, List, ◌++◌, length, drop, find, map, Option, Some, None, codes}
use Rattle.std.specs.List.{filter_map}
use Rattle.std.specs.Option.{option_map}
use Rattle.record_base.specs.declared.attribute.Attribute.{Attribute}
use Rattle.record_base.specs.declared.key.Key.{Key}
use Rattle.record_base.specs.declared.key.Key.TheVariants as key
use Rattle.cfg_records.specs.declared.board_file.BoardFile.{BoardFile}
use Rattle.report_words.specs.SensorNames.{id_string, sensor_head}
use Rattle.record_words.specs.NameWords.{subject_words}
use Rattle.record_words.specs.Quotes.{quoted}

-- the sensors that records tell of, by their numbers, each with its name where the record has one; and the attributes by their handles
pub record GivenNames : Type 0 where
  pub sensors : List (ℕ × Option (List ℕ))
  pub attributes : List (ℕ × List ℕ)

-- what a sensor data record tells: its sensor's number, and the id string, where that can be told
abbrev pub told_sensor : List ℕ → Option (ℕ × Option (List ℕ))
told_sensor bytes = option_map (λ head. (head.number, id_string (drop head.id_place bytes))) (sensor_head bytes)

abbrev pub told_attribute : Attribute → ℕ × List ℕ
told_attribute attribute = (attribute.handle, attribute.name)

-- those of a board, in its order
abbrev pub names_of : BoardFile → GivenNames
names_of file = record { sensors = filter_map told_sensor file.sdr.items; attributes = map told_attribute file.attributes.items }

-- the name that the first record of a sensor tells
abbrev pub sensor_name : Option (ℕ × Option (List ℕ)) → Option (List ℕ)
sensor_name (Some told) = told.1
sensor_name None = None

abbrev pub of_sensor : GivenNames → ℕ → Option (List ℕ)
of_sensor names number = sensor_name (find (λ told. told.0 == number) names.sensors)

abbrev pub of_attribute : GivenNames → ℕ → Option (List ℕ)
of_attribute names handle = option_map (λ told. told.1) (find (λ told. told.0 == handle) names.attributes)

-- the name of a record's sensor or attribute; other records have none
abbrev pub name_of : GivenNames → Key → Option (List ℕ)
name_of names (key.Thresholds number) = of_sensor names number
name_of names (key.Hysteresis number) = of_sensor names number
name_of names (key.EventEnable number) = of_sensor names number
name_of names (key.BiosAttribute handle) = of_attribute names handle
name_of names _ = None

-- what is told of a record begins with its sensor or attribute, and where that has a name, the name stands behind it, in quotes and parentheses
abbrev pub with_name : Key → Option (List ℕ) → (told : List ℕ) → List ℕ
with_name key None told = told
with_name key (Some name) told = subject_words key ++ (codes " (" ++ (quoted name ++ (codes ")" ++ drop (length (subject_words key)) told)))

-- so it is told with the name that the board gives
abbrev pub named_told : GivenNames → Key → (told : List ℕ) → List ℕ
named_told names key told = with_name key (name_of names key) told
