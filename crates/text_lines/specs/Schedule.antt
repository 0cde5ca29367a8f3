-- The text of a schedule.
use Rattle.std.specs.Prelude.{◌≡◌, ℕ, ◌+◌, ◌<◌, Bool, true, false, not, ◌==◌, List, [], ◌∷◌, filter, Result, Ok, Err, Some, slice_get}
use Rattle.std.specs.List.{AllZip}
use Rattle.text_lines.specs.declared.event.Event.{Event}
use Rattle.text_lines.specs.declared.schedule.ScheduleFault.{ScheduleFault}
use Rattle.text_lines.specs.declared.schedule.ScheduleFault.TheVariants.{Memory, Line}
use Rattle.text_lines.specs.ScheduleText.{lines_of}
use Rattle.text_lines.specs.EventLine.{IsLineOf}

-- a line that is blank, or that begins with '#', is skipped
abbrev pub is_skipped : List ℕ → Bool
is_skipped [] = true
is_skipped (first ∷ rest) = first == 35

-- the other lines
abbrev pub spoken : List (List ℕ) → List (List ℕ)
spoken lines = filter (λ line. not (is_skipped line)) lines

-- the lines say the events, one each and in their order, but for those that are skipped
abbrev pub AreLinesOf : List (List ℕ) → List Event → Type 0
AreLinesOf lines events = AllZip IsLineOf (spoken lines) events

-- a line that isn't skipped and says no event
pub record IsBad (line : List ℕ) : Type 0 where
  pub spoken : is_skipped line ≡ false
  pub nothing : (event : Event) → ¬ IsLineOf line event

-- the line of this number, counted from 1, is the first bad one
pub record IsFirstBad (lines : List (List ℕ)) (number : ℕ) : Type 0 where
  pub place : ℕ
  pub line : List ℕ
  pub counted : number ≡ place + 1
  pub there : slice_get lines place ≡ Some line
  pub bad : IsBad line
  pub first : (before : ℕ) (other : List ℕ) → before < place → slice_get lines before ≡ Some other → ¬ IsBad other

-- the events are those that the lines say; else the first bad line is named, unless memory was refused
abbrev pub LinesAreRead : List (List ℕ) → Result (List Event) ScheduleFault → Type 0
LinesAreRead lines (Ok events) = AreLinesOf lines events
LinesAreRead lines (Err Memory) = Unit {0}
LinesAreRead lines (Err (Line number)) = IsFirstBad lines number

-- the same of the lines of a text
abbrev pub TextIsRead : List ℕ → Result (List Event) ScheduleFault → Type 0
TextIsRead text result = LinesAreRead (lines_of text) result
