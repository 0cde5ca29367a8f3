-- String entries (DSP0247): a handle, a text's length, and the text.
use Rattle.std.specs.Prelude.{ℕ, nat_le, List, ◌∷◌, length, take, drop, if◌then◌else◌, Option, Some, None}
use Rattle.record_base.specs.AttributeValue.{number_of}
use Rattle.bios_attr.specs.declared.string_entry.StringEntry.{StringEntry}
use Rattle.bios_attr.specs.Attributes.{string_entry}

-- so many bytes and what is behind them, made into something; nothing where there aren't so many
abbrev pub piece : {X : Type 0} → ℕ → List ℕ → (List ℕ → List ℕ → Option X) → Option X
piece count bytes make = if nat_le count (length bytes) then make (take count bytes) (drop count bytes) else None

-- an entry's bytes
abbrev pub string_bytes : StringEntry → List ℕ
string_bytes entry = string_entry entry.handle entry.text

-- the entry at the front of the bytes, and what is behind it: a handle, a length, and so many bytes of text
abbrev pub string_at : List ℕ → Option (StringEntry × List ℕ)
string_at (low ∷ high ∷ a ∷ b ∷ bytes) = piece (number_of a b) bytes (λ text rest. Some (record { handle = number_of low high; text = text }, rest))
string_at _ = None
