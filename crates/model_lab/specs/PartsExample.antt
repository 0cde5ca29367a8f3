-- A text of 220 bytes: its Set is two requests, and so is its Get.
use Rattle.std.specs.Prelude.{◌≡◌, ℕ, List, [], ◌∷◌, take, drop, replicate, true, Some, None}
use Rattle.record_base.specs.declared.op.Op.{Op}
use Rattle.record_base.specs.declared.op.Op.TheVariants as op
use Rattle.record_base.specs.declared.message.Asked.TheVariants.{Pldm}
use Rattle.record_base.specs.declared.key.Key.TheVariants as key
use Rattle.record_base.specs.AttributeValue.{string_type}
use Rattle.record_base.specs.BiosAttribute.{setting}
use Rattle.bios_attr.specs.EntryParts.{is_in_parts, first_part, joined}
use Rattle.record_kinds.specs.Series.{Reads, sends, set_whole, first_of, next_after}

-- a length in two bytes, and 220 times `a`
abbrev pub value : List ℕ
value = 0xDC ∷ 0x00 ∷ replicate 220 0x61

abbrev pub entry : List ℕ
entry = 0x01 ∷ 0x00 ∷ string_type ∷ value

-- attribute 1 is to have this text
abbrev pub long : Op
long = op.BiosAttribute (setting 1 string_type value)

-- the data of a reply that shows the entry, and of those that show its parts
abbrev pub whole : List ℕ
whole = 0x00 ∷ 0x00 ∷ 0x00 ∷ 0x00 ∷ 0x05 ∷ entry

abbrev pub one : List ℕ
one = 0xC0 ∷ 0x00 ∷ 0x00 ∷ 0x00 ∷ 0x01 ∷ take 192 entry

abbrev pub other : List ℕ
other = 0x00 ∷ 0x00 ∷ 0x00 ∷ 0x00 ∷ 0x04 ∷ drop 192 entry

-- the parts have 192 and 33 bytes
pub record GoesInTwo : Type 0 where
  pub in_parts : is_in_parts (set_whole long) ≡ true
  pub first : first_of (sends long) ≡ Pldm 0 0x03 0x07 (0x00 ∷ 0x00 ∷ 0x00 ∷ 0x00 ∷ 0x01 ∷ take 192 entry)
  pub second : next_after (sends long) ((0xC0 ∷ 0x00 ∷ 0x00 ∷ 0x00 ∷ []) ∷ []) ≡ Some (Pldm 0 0x03 0x07 (0xC0 ∷ 0x00 ∷ 0x00 ∷ 0x00 ∷ 0x04 ∷ drop 192 entry))
  pub no_third : next_after (sends long) ([] ∷ [] ∷ []) ≡ None
  pub shown : first_part whole ≡ one
  pub goes_on : next_after (Reads (key.BiosAttribute 1)) (one ∷ []) ≡ Some (Pldm 0 0x03 0x08 (0xC0 ∷ 0x00 ∷ 0x00 ∷ 0x00 ∷ 0x00 ∷ 0x01 ∷ 0x00 ∷ []))
  pub ends : next_after (Reads (key.BiosAttribute 1)) (one ∷ other ∷ []) ≡ None
  pub together : joined (one ∷ other ∷ []) ≡ whole
  pub one_part_is_none : joined (one ∷ one ∷ []) ≡ []
