-- Texts in quotes, as printable ASCII.
use Rattle.std.specs.Prelude.{ℕ, Bool, ◌&&◌, ◌==◌, not, nat_le, List, [], ◌∷◌, ◌++◌, if◌then◌else◌, codes}
use Rattle.std.specs.List.{flat_map}
use Rattle.record_words.specs.Digits.{hex_of}

-- printable ASCII, and neither a quote nor a backslash
abbrev pub is_plain : ℕ → Bool
is_plain byte = nat_le 32 byte && (nat_le byte 126 && (not (byte == 34) && not (byte == 92)))

-- a byte as it is, or as `\x` and two digits
abbrev pub escape_of : ℕ → List ℕ
escape_of byte = if is_plain byte then byte ∷ [] else codes "\\x" ++ hex_of byte

-- a text, each of its bytes so
abbrev pub escaped : List ℕ → List ℕ
escaped text = flat_map escape_of text

-- a text between quotes
abbrev pub quoted : List ℕ → List ℕ
quoted text = codes "\"" ++ (escaped text ++ codes "\"")

-- the byte in front of a text without 00h at its end
abbrev pub before_trimmed : ℕ → List ℕ → List ℕ
before_trimmed byte [] = if byte == 0 then [] else byte ∷ []
before_trimmed byte (next ∷ more) = byte ∷ next ∷ more

-- the text without 00h at its end
unfoldable pub trimmed : List ℕ → List ℕ
trimmed [] = []
trimmed (byte ∷ more) = before_trimmed byte (trimmed more)
