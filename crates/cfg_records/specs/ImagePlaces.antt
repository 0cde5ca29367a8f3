-- Where each key's record lies in an image.
use Rattle.std.specs.Prelude.{ℕ, Option}
use Rattle.std.specs.Option.{option_or}
use Rattle.record_base.specs.declared.key.Key.{Key}
use Rattle.cfg_records.specs.Index.{place_of}
use Rattle.cfg_records.specs.declared.image_places.Places.{Places}
use Rattle.cfg_records.specs.SortedKeys.{offset_in}

-- the offset of the key's record: as the sensors' tables have it, else as the list has it
abbrev pub offset_of : Places → Key → Option ℕ
offset_of places key = option_or (place_of places.sensors key) (offset_in places.others.entries.items key)
