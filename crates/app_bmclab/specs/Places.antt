-- The places in a schedule that the word of `--restart` names.
use Rattle.std.specs.Prelude.{◌≡◌, ℕ, ◌<◌, ◌^◌, List, [], ◌∷◌, Option, None, Some}
use Rattle.std.specs.Fmt.{decimal}
use Rattle.clap.specs.Words.{Text}
use Rattle.text_lines.specs.Cuts.{LacksByte, CutsAt}

-- the byte between two places
abbrev pub comma : ℕ
comma = 44

-- the word is this place in decimal digits, which is above the one before it
pub record IsPlaceAbove (low : ℕ) (word : Text) (place : ℕ) : Type 0 where
  pub spelt : word ≡ decimal place
  pub above : low < place
  pub small : place < 2 ^ 32

-- the word names these places, at least one, with a comma between two, and each above the one before it
abbrev pub NamesAbove : (low : ℕ) → Text → List ℕ → Type 0
NamesAbove low word [] = ⊥
NamesAbove low word (place ∷ []) = LacksByte comma word × IsPlaceAbove low word place
NamesAbove low word (place ∷ next ∷ places) = (first : Text) × (rest : Text) × CutsAt comma word first rest × IsPlaceAbove low first place × NamesAbove place rest (next ∷ places)

-- the word, where there is one, names these places, which count from 1; and there is none where there is no word
abbrev pub NamesPlaces : Option Text → List ℕ → Type 0
NamesPlaces None places = places ≡ []
NamesPlaces (Some word) places = NamesAbove 0 word places
