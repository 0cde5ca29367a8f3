-- The lines of a text, by their numbers.
use Rattle.std.specs.Prelude.{◌≡◌, ◌-◌, ℕ, Some, List}
use Rattle.std.specs.List.{slice_get}
use Rattle.text_lines.specs.ScheduleText.{lines_of}
use Rattle.text_check.specs.declared.bad_line.LineAt.{LineAt}

-- the line is the text's of this number, counted from 1
abbrev pub IsLineAt : (text : List ℕ) → (number : ℕ) → LineAt → Type 0
IsLineAt text number line = (line.number ≡ number) × (slice_get (lines_of text) (number - 1) ≡ Some line.said.now)
