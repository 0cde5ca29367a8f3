-- The text of readings: the list that a text stands for, and the first bad line of one that stands for none. Its lines, and which of them
-- are skipped, are those of a schedule.
use Rattle.std.specs.Prelude.{◌≡◌, ◌+◌, ◌<◌, ℕ, List, Vec, Result, Ok, Err, length, take}
use Rattle.std.specs.List.{AllZip}
use Rattle.std.specs.List.Sorted.{IsNonDecreasingBy}
use Rattle.bmc_ports.specs.declared.timetable.Timed.{Timed}
use Rattle.text_lines.specs.ScheduleText.{lines_of}
use Rattle.text_lines.specs.Schedule.{spoken}
use Rattle.app_serve.specs.ReadingsLine.{IsReadingLine}
use Rattle.app_serve.specs.declared.readings_text.ReadingsFault.{ReadingsFault}
use Rattle.app_serve.specs.declared.readings_text.ReadingsFault.TheVariants.{Memory, Line}

-- nothing of the list has a later time than what stands behind it
abbrev pub NeverFalls : List Timed → Type 0
NeverFalls list = IsNonDecreasingBy (λ timed. timed.at_ms) list

-- The lines say the list, one line each and in their order, but for those that are skipped. Its times don't fall.
pub record AreReadingLines (lines : List (List ℕ)) (list : List Timed) : Type 0 where
  pub each : AllZip IsReadingLine (spoken lines) list
  pub order : NeverFalls list

-- the text stands for the list: its lines tell it
abbrev pub IsReadingsText : List ℕ → List Timed → Type 0
IsReadingsText text list = AreReadingLines (lines_of text) list

-- The line of this number, counted from 1, is the first bad one: those before it tell a list, and with it they tell none.
pub record IsFirstBadOf (lines : List (List ℕ)) (number : ℕ) : Type 0 where
  pub place : ℕ
  pub counted : number ≡ place + 1
  pub there : place < length lines
  pub before : List Timed
  pub good : AreReadingLines (take place lines) before
  pub bad : (list : List Timed) → ¬ AreReadingLines (take (place + 1) lines) list

-- the same of the lines of a text
abbrev pub IsFirstBad : List ℕ → ℕ → Type 0
IsFirstBad text number = IsFirstBadOf (lines_of text) number

-- the list is what the lines tell; else the first bad line is named, unless memory was refused
abbrev pub LinesAreRead : {A : Type 0} → List (List ℕ) → Result (Vec Timed A) ReadingsFault → Type 0
LinesAreRead lines (Ok list) = AreReadingLines lines list.items
LinesAreRead lines (Err Memory) = Unit {0}
LinesAreRead lines (Err (Line number)) = IsFirstBadOf lines number

-- the same of the lines of a text
abbrev pub TextIsRead : {A : Type 0} → List ℕ → Result (Vec Timed A) ReadingsFault → Type 0
TextIsRead text result = LinesAreRead (lines_of text) result
