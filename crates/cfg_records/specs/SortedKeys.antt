-- Keys in their order, each with the offset of its record.
use Rattle.std.specs.Prelude.{◌≡◌, ℕ, ◌<◌, ◌≤◌, List, length, slice_index_or, Option, find}
use Rattle.std.specs.Option.{option_map}
use Rattle.std.specs.declared.cmp.Ordering.TheVariants.{Less, Greater}
use Rattle.record_base.specs.declared.key.Key.{Key}
use Rattle.record_base.specs.Keys.{key_cmp, same_key}

-- a key, and the offset of its record
abbrev pub Entry : Type 0
Entry = Key × ℕ

-- the entry's key
abbrev pub key_of : Entry → Key
key_of entry = entry.0

-- the offset that stands beside the key
abbrev pub offset_in : List Entry → Key → Option ℕ
offset_in entries key = option_map (λ entry. entry.1) (find (λ entry. same_key entry.0 key) entries)

-- each key is below those that come after it
abbrev pub AreRising : List Entry → Type 0
AreRising entries = (i j : ℕ) (d : Entry) → i < j → j < length entries → key_cmp (key_of (slice_index_or entries i d)) (key_of (slice_index_or entries j d)) ≡ Less

-- the entry at this place has the key
pub record IsAt (entries : List Entry) (key : Key) (place : ℕ) : Type 0 where
  pub inside : place < length entries
  pub has_key : (d : Entry) → key_of (slice_index_or entries place d) ≡ key

-- the key would go to this place: lower keys stand before it, and higher keys from it on
pub record IsGapFor (entries : List Entry) (key : Key) (place : ℕ) : Type 0 where
  pub inside : place ≤ length entries
  pub lower : (j : ℕ) (d : Entry) → j < place → key_cmp (key_of (slice_index_or entries j d)) key ≡ Less
  pub higher : (j : ℕ) (d : Entry) → place ≤ j → j < length entries → key_cmp (key_of (slice_index_or entries j d)) key ≡ Greater
