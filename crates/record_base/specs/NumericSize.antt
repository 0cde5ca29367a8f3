-- The sizes of a numeric effecter's numbers (DSP0248), and the bytes of these numbers.
use Rattle.std.specs.Prelude.{ℕ, ◌+◌, ◌*◌, ◌/◌, ◌%◌, List, [], ◌∷◌, take, slice_index}
use Rattle.record_base.specs.declared.numeric_size.NumericSize.{NumericSize}
use Rattle.record_base.specs.declared.numeric_size.NumericSize.TheVariants.{U8, S8, U16, S16, U32, S32}

-- the number that stands for a size in requests and replies
abbrev pub code_of : NumericSize → ℕ
code_of U8 = 0
code_of S8 = 1
code_of U16 = 2
code_of S16 = 3
code_of U32 = 4
code_of S32 = 5

-- how many bytes a number of the size has
abbrev pub width_of : NumericSize → ℕ
width_of U8 = 1
width_of S8 = 1
width_of U16 = 2
width_of S16 = 2
width_of U32 = 4
width_of S32 = 4

-- how many numbers the size has
abbrev pub numbers_of : NumericSize → ℕ
numbers_of U8 = 0x100
numbers_of S8 = 0x100
numbers_of U16 = 0x10000
numbers_of S16 = 0x10000
numbers_of U32 = 0x100000000
numbers_of S32 = 0x100000000

-- how many numbers of the size are negative: half of the signed numbers, and no unsigned number
abbrev pub negatives_of : NumericSize → ℕ
negatives_of S8 = 0x80
negatives_of S16 = 0x8000
negatives_of S32 = 0x80000000
negatives_of _ = 0

-- how many numbers of the size are less than this number, where negative numbers are in two's complement
abbrev pub rank : NumericSize → ℕ → ℕ
rank size number = (number + negatives_of size) % numbers_of size

-- the bytes of a number of the size, the low byte first
abbrev pub bytes_of : NumericSize → ℕ → List ℕ
bytes_of size number = take (width_of size) (number % 256 ∷ number / 256 % 256 ∷ number / 65536 % 256 ∷ number / 16777216 ∷ [])

-- the number of at most four bytes
abbrev pub number_in : List ℕ → ℕ
number_in value = slice_index value 0 + 256 * slice_index value 1 + 65536 * slice_index value 2 + 16777216 * slice_index value 3
