-- What no line of words has between or around them.
use Rattle.std.specs.Prelude.{◌≡◌, ◌==◌, ◌+◌, ◌-◌, ℕ, Bool, true, ◌&&◌, List, length, slice_index}
use Rattle.file_words.specs.declared.slip.Slip.{Slip}
use Rattle.file_words.specs.declared.slip.Slip.TheVariants.{CarriageReturn, ByteOrderMark, SpaceAtFront, SpaceAtEnd, TwoSpaces, Tab}

-- the last byte, or 0
abbrev pub last : List ℕ → ℕ
last line = slice_index line (length line - 1)

-- the first bytes are those of U+FEFF in UTF-8
abbrev pub begins_with_mark : List ℕ → Bool
begins_with_mark line = (slice_index line 0 == 0xEF) && ((slice_index line 1 == 0xBB) && (slice_index line 2 == 0xBF))

-- the line has the slip, at its place
abbrev pub HasSlip : (line : List ℕ) → Slip → Type 0
HasSlip line CarriageReturn = last line ≡ 13
HasSlip line ByteOrderMark = begins_with_mark line ≡ true
HasSlip line SpaceAtFront = slice_index line 0 ≡ 32
HasSlip line SpaceAtEnd = last line ≡ 32
HasSlip line (TwoSpaces place) = (slice_index line place ≡ 32) × (slice_index line (place + 1) ≡ 32)
HasSlip line (Tab place) = slice_index line place ≡ 9
