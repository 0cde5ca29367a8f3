-- What each member of a field's list can be, whatever the others are.
use Rattle.std.specs.Prelude.{◌≡◌, ℕ, Bool, true, false, List, length, Some, is_some}
use Rattle.std.specs.List.{list_all, slice_get}
use Rattle.toml.specs.Data.{Data, Members}
use Rattle.text_fields.specs.declared.field.Field.TheVariants as field
use Rattle.text_fields.specs.declared.row.Shape.{Shape}
use Rattle.text_fields.specs.declared.row.Shape.TheVariants as shape
use Rattle.text_fields.specs.Trees.{natural, members, members_in, or_none}
use Rattle.text_fields.specs.Ranges.{passes, is_between, record_in, is_offset, may_do}
use Rattle.text_fields.specs.Users.{name_of}
use Rattle.text_fields.specs.Attributes.{text_of, is_below as is_index}
use Rattle.text_fields.specs.States.{change_of}

-- a byte
abbrev pub is_byte : Data → Bool
is_byte d = passes (is_between 0 255) (natural d)

-- a list of bytes
abbrev pub are_bytes : Data → Bool
are_bytes d = list_all is_byte (or_none (members d))

-- a number below this one
abbrev pub is_below : ℕ → Data → Bool
is_below count d = is_index count (natural d)

-- the value can be a member of an item's list of this shape
abbrev pub fits : Members → Shape → Data → Bool
fits tree (shape.Records most) d = is_some (record_in d)
fits tree shape.Names d = is_some (name_of d)
fits tree shape.Values d = is_some (text_of d)
fits tree shape.Offsets d = is_offset d
fits tree shape.Limits d = passes (is_between 1 5) (natural d)
fits tree (shape.UserBytes users) d = may_do d
fits tree shape.StateLists d = are_bytes d
fits tree shape.StateChanges d = is_some (change_of d)
fits tree shape.Indexes d = is_below (length (members_in field.Values tree)) d
fits tree shape.Watchdog d = true
fits tree (shape.Tables most) d = true
fits tree _ d = is_byte d

-- the value at this place can't be a member
abbrev pub IsUnfitAt : Members → Shape → List Data → (place : ℕ) → Type 0
IsUnfitAt tree of values place = (d : Data) × (slice_get values place ≡ Some d) × (fits tree of d ≡ false)
