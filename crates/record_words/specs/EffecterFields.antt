-- The fields of effecters (DSP0248).
use Rattle.std.specs.Prelude.{ℕ, ◌==◌, Option, Some, None, List, [], ◌∷◌, if◌then◌else◌}
use Rattle.std.specs.List.{slice_get}
use Rattle.record_base.specs.NumericSize.{number_in}
use Rattle.record_base.specs.declared.field_changes.FieldChange.{FieldChange}
use Rattle.record_base.specs.declared.numeric_effecter.SetNumericEffecter.{SetNumericEffecter}
use Rattle.record_base.specs.declared.numeric_effecter.NumericBytes.{NumericBytes}
use Rattle.record_base.specs.declared.numeric_effecter.NumericBytes.TheVariants.{One, Two, Four, Other}
use Rattle.record_words.specs.declared.field.Field.{Field}
use Rattle.record_words.specs.declared.shown.Shown.{Shown}
use Rattle.record_words.specs.declared.shown.Shown.TheVariants.{Kept, Number, Sized, Chosen}
use Rattle.record_words.specs.FieldWords.{numbered, whole}

-- how many bytes there are, and the number that they are, the low byte first
abbrev pub number : NumericBytes → ℕ × ℕ
number (One low) = (1, low)
number (Two low high) = (2, number_in (low ∷ high ∷ []))
number (Four first second third fourth) = (4, number_in (first ∷ second ∷ third ∷ fourth ∷ []))
number Other = (0, 0)

abbrev pub numeric : SetNumericEffecter → List Field
numeric set = whole (Sized (record { code = set.size; width = (number set.value).0; number = (number set.value).1 })) ∷ []

-- the state that a change gives to its field: by the choice 00h, or without a change, none
abbrev pub state_of : Option FieldChange → Shown
state_of None = Kept
state_of (Some change) =
    if change.choice == 0 then Kept
    else (if change.choice == 1 then Number change.state else Chosen (record { choice = change.choice; state = change.state }))

abbrev pub state : List FieldChange → ℕ → Shown
state changes place = state_of (slice_get changes place)

-- the fields of an operation on a state effecter, from the first
abbrev pub states : List FieldChange → List Field
states changes =
    numbered 1 (state changes 0) ∷
    numbered 2 (state changes 1) ∷
    numbered 3 (state changes 2) ∷
    numbered 4 (state changes 3) ∷
    numbered 5 (state changes 4) ∷
    numbered 6 (state changes 5) ∷
    numbered 7 (state changes 6) ∷
    numbered 8 (state changes 7) ∷
    numbered 9 (state changes 8) ∷
    []
