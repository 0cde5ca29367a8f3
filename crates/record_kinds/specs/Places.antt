-- Where sensors stand in a list, by their numbers.
use Rattle.std.specs.Prelude.{◌≡◌, ℕ, ◌<◌, List, length, slice_index}
use Rattle.std.specs.List.{slice_get}
use Rattle.record_base.specs.declared.sensor.Sensor.{Sensor}
use Rattle.record_kinds.specs.Boards.{sensor_at}

-- for each number, the place of its sensor, or one past the list's end where no sensor has it
pub record ArePlaces (sensors : List Sensor) (places : List ℕ) : Type 0 where
  pub all : length places ≡ 256
  pub found : (number : ℕ) → number < 256 → slice_get sensors (slice_index places number) ≡ sensor_at sensors number
