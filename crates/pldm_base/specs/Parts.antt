-- Tables in parts.
use Rattle.std.specs.Prelude.{◌≡◌, ℕ, ◌+◌, ◌%◌, ◌^◌, ◌<◌, ◌≤◌, ◌||◌, ◌&&◌, ◌==◌, nat_lt, nat_le, List, [], ◌∷◌, length, take, drop, Bool, true, false, Option, Some, None, if◌then◌else◌}
use Rattle.std.specs.List.{concat}
use Rattle.pldm_base.specs.declared.table.Part.{Part}
use Rattle.pldm_base.specs.declared.table.TransferFlag.{TransferFlag}
use Rattle.pldm_base.specs.declared.table.TransferFlag.TheVariants.{Start, Middle, End, StartAndEnd}

-- how many bytes each part but the last has
abbrev pub part_length : ℕ
part_length = 192

-- each part but the last has 192 bytes, the last has at most as many, and only a part that is alone may be empty
abbrev pub AreSizes : List (List ℕ) → Type 0
AreSizes [] = ⊥
AreSizes (last ∷ []) = length last ≤ part_length
AreSizes (part ∷ next ∷ others) = (length part ≡ part_length) × (0 < length next) × AreSizes (next ∷ others)

-- the parts of a table: put together they are the table
pub record AreParts (table : List ℕ) (parts : List (List ℕ)) : Type 0 where
  pub sizes : AreSizes parts
  pub together : concat parts ≡ table

-- a part begins at the offset: the first, or one at a multiple of 192 within the table
abbrev pub begins_part : List ℕ → ℕ → Bool
begins_part table offset = offset == 0 || (offset % part_length == 0 && nat_lt offset (length table))

-- the bytes of the part at an offset: 192, or the rest
abbrev pub part_bytes : List ℕ → ℕ → List ℕ
part_bytes table offset = take part_length (drop offset table)

-- whether the part at an offset is the last
abbrev pub is_last : List ℕ → ℕ → Bool
is_last table offset = nat_le (length table) (offset + part_length)

-- the offset of the part behind the one at an offset, or 0
abbrev pub next_handle : List ℕ → ℕ → ℕ
next_handle table offset = if is_last table offset then 0 else (offset + part_length)

-- the flag of a part, by whether it is the first and whether it is the last
abbrev pub flag_of : Bool → Bool → TransferFlag
flag_of true false = Start
flag_of false false = Middle
flag_of false true = End
flag_of true true = StartAndEnd

-- the byte of a flag
abbrev pub flag_byte : TransferFlag → ℕ
flag_byte Start = 1
flag_byte Middle = 2
flag_byte End = 4
flag_byte StartAndEnd = 5

-- the part of a table at an offset
pub record IsPart (table : List ℕ) (offset : ℕ) (p : Part) : Type 0 where
  pub bytes : p.bytes.now ≡ part_bytes table offset
  pub next : p.next ≡ next_handle table offset
  pub flag : p.flag ≡ flag_of (offset == 0) (is_last table offset)

-- the transfer operations that ask for the first part and for a later one
abbrev pub get_first_part : ℕ
get_first_part = 0x01

abbrev pub get_next_part : ℕ
get_next_part = 0x00

-- the offset of the part that a request asks for: the first, or a later one by its handle; no part of a table of over
-- 2^32 bytes is asked for, since handles have 32 bits
abbrev pub asked_offset : List ℕ → ℕ → ℕ → Option ℕ
asked_offset table operation handle =
    if nat_lt (2 ^ 32) (length table) then None
    else (if operation == get_first_part then Some 0
    else (if operation == get_next_part && (nat_lt 0 handle && begins_part table handle) then Some handle
    else None))

-- ---- an entry, which is given whole where it is short

-- how many bytes an entry has at most that is given whole
abbrev pub most_whole : ℕ
most_whole = 205

-- whether it is given whole
abbrev pub goes_whole : List ℕ → Bool
goes_whole entry = nat_le (length entry) most_whole

-- the offset of the part of an entry that a request asks for: a whole one has no later part
abbrev pub asked_of_entry : List ℕ → ℕ → ℕ → Option ℕ
asked_of_entry entry operation handle =
    if goes_whole entry then (if operation == get_first_part then Some 0 else None)
    else asked_offset entry operation handle

-- the part of an entry at an offset: the whole entry, or that of a table
pub record IsEntryPart (entry : List ℕ) (offset : ℕ) (p : Part) : Type 0 where
  pub bytes : p.bytes.now ≡ (if goes_whole entry then entry else part_bytes entry offset)
  pub next : p.next ≡ (if goes_whole entry then 0 else next_handle entry offset)
  pub flag : p.flag ≡ (if goes_whole entry then StartAndEnd else flag_of (offset == 0) (is_last entry offset))
