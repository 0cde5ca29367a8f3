-- The number of an effecter in words, by its size (DSP0248): signed numbers are in two's complement.
use Rattle.std.specs.Prelude.{ℕ, ◌-◌, ◌/◌, ◌%◌, Bool, ◌==◌, ◌&&◌, nat_le, List, ◌++◌, if◌then◌else◌, codes}
use Rattle.std.specs.Fmt.{decimal}
use Rattle.record_words.specs.declared.meaning.Meaning.{Meaning}
use Rattle.record_words.specs.declared.meaning.Meaning.TheVariants as meaning
use Rattle.record_words.specs.Meanings.{meaning_words}
use Rattle.record_words.specs.declared.numbers.SizedNumber.{SizedNumber}

-- how many numbers so many bytes have
abbrev pub span : ℕ → ℕ
span width = if width == 1 then 0x100 else (if width == 2 then 0x10000 else 0x100000000)

-- the size of a code
abbrev pub size_of : ℕ → Meaning
size_of code =
    if code == 0 then meaning.Uint8
    else (if code == 1 then meaning.Sint8
    else (if code == 2 then meaning.Uint16
    else (if code == 3 then meaning.Sint16
    else (if code == 4 then meaning.Uint32
    else (if code == 5 then meaning.Sint32 else meaning.UnknownSize)))))

-- how many bytes a number of the size has
abbrev pub width_of : ℕ → ℕ
width_of code = if nat_le code 1 then 1 else (if nat_le code 3 then 2 else (if nat_le code 5 then 4 else 0))

-- the size is one with signs, and the number one of its upper half
abbrev pub is_negative : SizedNumber → Bool
is_negative it = (it.code % 2 == 1) && nat_le (span it.width / 2) it.number

-- the number with its sign
abbrev pub number_words : SizedNumber → List ℕ
number_words it = if is_negative it then codes "-" ++ decimal (span it.width - it.number) else decimal it.number

-- the size; and its code and how many bytes there are, where these aren't the size's
abbrev pub size_words : SizedNumber → List ℕ
size_words it =
    if it.width == width_of it.code
    then codes " (" ++ (meaning_words (size_of it.code) ++ codes ")")
    else codes " (" ++ (meaning_words (size_of it.code) ++ (codes " " ++ (decimal it.code ++ (codes ", " ++ (decimal it.width ++ codes " bytes)")))))

-- the number, and its size
abbrev pub sized_words : SizedNumber → List ℕ
sized_words it = number_words it ++ size_words it
