-- The strings of a board's string table (DSP0247): which texts they are, in which order, and which handle a text has.
use Rattle.std.specs.Prelude.{◌≡◌, ◌≢◌, ℕ, ◌+◌, ◌<◌, List, [], ◌∷◌, length, slice_get, Some, All, AllPairs}
use Rattle.std.specs.List.{flat_map, position_or_len}
use Rattle.record_base.specs.declared.attribute.Attribute.{Attribute}
use Rattle.bios_attr.specs.declared.string_entry.StringEntry.{StringEntry}
use Rattle.bios_attr.specs.Attributes.{is_text, texts_of, handle_of, string_entries}
use Rattle.bios_attr.specs.StringEntry.{string_bytes}

-- the texts that attributes use, one after the other: each one's name, then its possible values
abbrev pub texts_used : List Attribute → List (List ℕ)
texts_used attributes = flat_map texts_of attributes

-- where a text is used first
abbrev pub first_use : List (List ℕ) → List ℕ → ℕ
first_use used text = position_or_len (is_text text) used

-- texts as entries, whose handles count from this one
abbrev pub numbered : ℕ → List (List ℕ) → List StringEntry
numbered handle [] = []
numbered handle (text ∷ texts) = record { handle = handle; text = text } ∷ numbered (handle + 1) texts

-- the strings are the texts that are used, each once, in the order of their first uses; they are written with handles from 0 on; and each
-- text that is used has a handle, whose entry has this handle and this text
pub record AreStrings (used strings : List (List ℕ)) : Type 0 where
  pub distinct : AllPairs (λ a b. a ≢ b) strings
  pub known : All (λ text. first_use used text < length used) strings
  pub in_order : AllPairs (λ a b. first_use used a < first_use used b) strings
  pub counted : string_entries 0 strings ≡ flat_map string_bytes (numbered 0 strings)
  pub found : All (λ text. slice_get (numbered 0 strings) (handle_of strings text) ≡ Some (record { handle = handle_of strings text; text = text })) used
