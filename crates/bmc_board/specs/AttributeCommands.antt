-- What the commands of BIOS attributes ask for.
use Rattle.std.specs.Prelude.{ℕ, List, Result, Ok, Err, ◌==◌, if◌then◌else◌}
use Rattle.record_base.specs.Requests.{byte_at}
use Rattle.record_base.specs.declared.key.Key.TheVariants as key
use Rattle.record_base.specs.declared.op.Op.TheVariants as op
use Rattle.record_base.specs.declared.bios_attribute.SetBiosAttribute.{SetBiosAttribute}
use Rattle.bios_attr.specs.BiosAttribute.{attribute_in, attribute_shown_in, start_and_end}
use Rattle.bios_attr.specs.declared.bios_attribute.AskedPart.{AskedPart}
use Rattle.bios_attr.specs.declared.bios_attribute.AskedPart.TheVariants.{First, Later}
use Rattle.record_kinds.specs.declared.set_part.SetPart.{SetPart}
use Rattle.record_kinds.specs.PartData.{part_in}
use Rattle.bmc_board.specs.Asks.{Request}
use Rattle.bmc_board.specs.Asks.{Get, Set, PartOfSet, LaterPart}

-- ---- to set

-- a record, where the data are whole
abbrev pub whole_set : Result SetBiosAttribute ℕ → Result Request ℕ
whole_set (Ok change) = Ok (Set (op.BiosAttribute change))
whole_set (Err code) = Err code

-- what whole data ask for
abbrev pub whole_asked : List ℕ → Result Request ℕ
whole_asked body = whole_set (attribute_in body)

-- and else a part of a Set, which is its requester's
abbrev pub part_set : (from : ℕ) → Result SetPart ℕ → Result Request ℕ
part_set from (Ok part) = Ok (PartOfSet from part)
part_set from (Err code) = Err code

-- what the data of a part ask for
abbrev pub part_asked : (from : ℕ) → List ℕ → Result Request ℕ
part_asked from body = part_set from (part_in body)

-- the flag says whether the data are whole
abbrev pub attribute_set : (from : ℕ) → List ℕ → Result Request ℕ
attribute_set from body = if byte_at body 4 == start_and_end then whole_asked body else part_asked from body

-- ---- to get

-- a record, by the first part of its entry, or a later part
abbrev pub attribute_shown : Result AskedPart ℕ → Result Request ℕ
attribute_shown (Ok (First handle)) = Ok (Get (key.BiosAttribute handle))
attribute_shown (Ok (Later handle transfer)) = Ok (LaterPart handle transfer)
attribute_shown (Err code) = Err code

abbrev pub attribute_get : List ℕ → Result Request ℕ
attribute_get body = attribute_shown (attribute_shown_in body)
