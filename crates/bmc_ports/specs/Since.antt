-- Turns in a row, up to now, in which no frame of some sort was heard.
use Rattle.std.specs.Prelude.{◌≡◌, ◌⊎◌, ◌+◌, ◌^◌, ◌-◌, ◌++◌, ◌∷◌, ℕ, List, [], length, min, Option, Some, None}

-- what a turn heard: a frame, or none
abbrev pub Hearing : Type 0
Hearing = Option (List ℕ)

-- the largest number of turns in a row that is counted
abbrev pub most_turns : ℕ
most_turns = 2 ^ 32 - 1

-- no frame of this sort was heard in any of these turns
abbrev pub NoneHeard : (IsOne : List ℕ → Type 0) → List Hearing → Type 0
NoneHeard IsOne [] = Unit {0}
NoneHeard IsOne (None ∷ later) = NoneHeard IsOne later
NoneHeard IsOne (Some frame ∷ later) = ¬ IsOne frame × NoneHeard IsOne later

-- These turns are counted on: none of the sort was heard in them, and they are as many more; or one was, and those behind the last one are
-- all. No turns leave the count as it was.
unfoldable pub CountsOn : (IsOne : List ℕ → Type 0) → (before : ℕ) → List Hearing → (after : ℕ) → Type 0
CountsOn IsOne before [] after = after ≡ before
CountsOn IsOne before (heard ∷ later) after =
    (NoneHeard IsOne (heard ∷ later) × (after ≡ min (before + length (heard ∷ later)) most_turns))
    ⊎ ((first : List Hearing) × (frame : List ℕ) × (last : List Hearing) × (heard ∷ later ≡ first ++ Some frame ∷ last) × IsOne frame
    × NoneHeard IsOne last × (after ≡ min (length last) most_turns))
