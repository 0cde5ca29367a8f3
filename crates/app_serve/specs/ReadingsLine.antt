-- The lines of a text of readings: how each event is written, and its time.
use Rattle.std.specs.Prelude.{◌≡◌, ◌<◌, ◌^◌, ℕ, List, [], ◌∷◌, codes}
use Rattle.std.specs.Str.Parse.{IsNumeral, digits_value}
use Rattle.bmc_board.specs.declared.bench.Bench.{Bench}
use Rattle.bmc_board.specs.declared.bench.Bench.TheVariants.{Reading, Tick, Chassis}
use Rattle.bmc_ports.specs.declared.timetable.Timed.{Timed}
use Rattle.text_lines.specs.ScheduleText.{words_of, IsByte}

-- so many milliseconds, below 2^64, in one decimal digit or more, of which the first may be 0
pub record IsTime (digits : List ℕ) (milliseconds : ℕ) : Type 0 where
  pub decimal : IsNumeral 10 digits
  pub fits : milliseconds < 2 ^ 64
  pub value : digits_value 10 digits ≡ milliseconds

-- The words say what happens: a sensor gives a reading, a tenth of a second passes, or bits 4:0 of the chassis status become these.
-- Its other bits aren't set.
abbrev pub AreWordsOf : List (List ℕ) → Bench → Type 0
AreWordsOf words (Reading sensor raw) = (first second : List ℕ) × (words ≡ codes "scan" ∷ first ∷ second ∷ []) × IsByte first sensor × IsByte second raw
AreWordsOf words Tick = words ≡ codes "tick" ∷ []
AreWordsOf words (Chassis state) = (digits : List ℕ) × (words ≡ codes "chassis" ∷ digits ∷ []) × IsByte digits state × (state < 32)

-- the words say what happens, and the first of them when
abbrev pub SayTimed : List (List ℕ) → Timed → Type 0
SayTimed words timed =
    (time : List ℕ) × (what : List (List ℕ)) × (words ≡ time ∷ what) × IsTime time timed.at_ms × AreWordsOf what timed.event

-- the line says it: its words, with a space between two of them, do
abbrev pub IsReadingLine : List ℕ → Timed → Type 0
IsReadingLine line timed = SayTimed (words_of line) timed
