-- Bytes in hexadecimal digits.
use Rattle.std.specs.Prelude.{ℕ, ◌/◌, ◌%◌, true, List, [], ◌∷◌, ◌++◌, codes}
use Rattle.std.specs.List.{flat_map}
use Rattle.std.specs.Fmt.{digit_glyph}

-- a byte in two digits, in upper case
abbrev pub hex_of : ℕ → List ℕ
hex_of byte = digit_glyph true (byte / 16 % 16) ∷ digit_glyph true (byte % 16) ∷ []

-- bytes, a space before each
abbrev pub spaced_of : List ℕ → List ℕ
spaced_of bytes = flat_map (λ byte. codes " " ++ hex_of byte) bytes
