-- Texts as printable ASCII.
use Rattle.std.specs.Prelude.{ℕ, ◌+◌, ◌-◌, ◌/◌, ◌%◌, Bool, ◌&&◌, nat_le, nat_lt, List, [], ◌∷◌, if◌then◌else◌}
use Rattle.std.specs.List.{flat_map}

-- a byte of ASCII that is printed: from a space to `~`
abbrev pub is_printable : ℕ → Bool
is_printable byte = nat_le 32 byte && nat_le byte 126

-- the hexadecimal digit that says a number, in lower case
abbrev pub digit : ℕ → ℕ
digit number = if nat_lt number 10 then 48 + number else 97 + (number - 10)

-- a byte as it is, or as `\x` and two digits
abbrev pub escape : ℕ → List ℕ
escape byte = if is_printable byte then byte ∷ [] else 92 ∷ 120 ∷ digit (byte / 16) ∷ digit (byte % 16) ∷ []

-- a text, each of its bytes so
abbrev pub escaped : List ℕ → List ℕ
escaped text = flat_map escape text
