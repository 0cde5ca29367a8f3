-- Texts: their lines, the words of a line, and numbers in digits.
use Rattle.std.specs.Prelude.{◌≡◌, ℕ, ◌≤◌, ◌==◌, List, [], ◌∷◌, length, Ok}
use Rattle.std.specs.List.{slice_split}
use Rattle.std.specs.Str.Parse.{IsNumeral, digits_value}
use Rattle.hex.specs.Hex.{decode_of}

-- the lines of a text: what stands before, between and behind its line feeds
abbrev pub lines_of : List ℕ → List (List ℕ)
lines_of text = slice_split (λ b. b == 10) text

-- the words of a line: what stands before, between and behind its spaces
abbrev pub words_of : List ℕ → List (List ℕ)
words_of line = slice_split (λ b. b == 32) line

-- the number in one decimal digit or more, at most so many
pub record IsNumber (most : ℕ) (digits : List ℕ) (number : ℕ) : Type 0 where
  pub decimal : IsNumeral 10 digits
  pub few : length digits ≤ most
  pub value : digits_value 10 digits ≡ number

-- these bytes in hexadecimal, two digits each, in either case
abbrev pub AreHexBytes : List ℕ → List ℕ → Type 0
AreHexBytes digits bytes = decode_of digits ≡ Ok bytes

-- one byte in hexadecimal
abbrev pub IsByte : List ℕ → ℕ → Type 0
IsByte digits byte = AreHexBytes digits (byte ∷ [])
