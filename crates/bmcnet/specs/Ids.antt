-- The ids of effecters that the word of `--effecters` names.
use Rattle.std.specs.Prelude.{◌≡◌, ◌<◌, ◌≤◌, ◌^◌, ◌⊎◌, ℕ, List, [], ◌∷◌, Option, None, Some}
use Rattle.std.specs.Str.Parse.{IsNumeral, digits_value}
use Rattle.clap.specs.Words.{Text}
use Rattle.text_lines.specs.Cuts.{LacksByte, CutsAt}
use Rattle.app_show.specs.declared.keys.IdRange.{IdRange}

-- the byte between two ranges, and that between the first and the last id of one
abbrev pub comma : ℕ
comma = 44

abbrev pub dash : ℕ
dash = 45

-- the word is this id in decimal digits
pub record IsId (word : Text) (id : ℕ) : Type 0 where
  pub digits : IsNumeral 10 word
  pub small : digits_value 10 word < 2 ^ 16
  pub value : id ≡ digits_value 10 word

-- the ids are those from that of one word up to that of another
pub record IsBetween (front back : Text) (range : IdRange) : Type 0 where
  pub first : IsId front range.first
  pub last : IsId back range.last
  pub some : range.first ≤ range.last

-- the word is one id, or a first and a last one with a dash between the two
abbrev pub IsIdRange : Text → IdRange → Type 0
IsIdRange word range =
    (LacksByte dash word × IsBetween word word range) ⊎ ((front : Text) × (back : Text) × CutsAt dash word front back × IsBetween front back range)

-- the word names these ranges, at least one, with a comma between two
abbrev pub NamesRanges : Text → List IdRange → Type 0
NamesRanges word [] = ⊥
NamesRanges word (range ∷ []) = LacksByte comma word × IsIdRange word range
NamesRanges word (range ∷ next ∷ ranges) =
    (first : Text) × (rest : Text) × CutsAt comma word first rest × IsIdRange first range × NamesRanges rest (next ∷ ranges)

-- the word, where there is one, names these; and there are none where there is no word
abbrev pub NamesGiven : Option Text → List IdRange → Type 0
NamesGiven None ranges = ranges ≡ []
NamesGiven (Some word) ranges = NamesRanges word ranges
