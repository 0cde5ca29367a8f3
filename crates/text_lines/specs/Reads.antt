-- What reading a word or a line gives.
use Rattle.std.specs.Prelude.{ℕ, List, Option, Some, None, Result, Ok, Err, Vec}
use Rattle.text_lines.specs.ScheduleText.{AreHexBytes}
use Rattle.text_lines.specs.declared.event_line.LineFault.{LineFault}
use Rattle.text_lines.specs.declared.event_line.LineFault.TheVariants.{Memory, Bad}

-- what is found is so, or nothing is so
abbrev pub FindsOne : {A : Type 0} → (A → Type 0) → Option A → Type 0
FindsOne IsSo (Some x) = IsSo x
FindsOne IsSo None = (x : _) → ¬ IsSo x

-- what is read is so, or nothing is so and the line is bad, or memory was refused
abbrev pub ReadsLine : {A : Type 0} → (A → Type 0) → Result A LineFault → Type 0
ReadsLine IsSo (Ok x) = IsSo x
ReadsLine IsSo (Err Memory) = Unit {0}
ReadsLine IsSo (Err Bad) = (x : _) → ¬ IsSo x

-- the same of bytes in hexadecimal
abbrev pub ReadsBytes : {A : Type 0} → List ℕ → Result (Vec ℕ A) LineFault → Type 0
ReadsBytes digits (Ok bytes) = AreHexBytes digits bytes.items
ReadsBytes digits (Err Memory) = Unit {0}
ReadsBytes digits (Err Bad) = (bytes : List ℕ) → ¬ AreHexBytes digits bytes
