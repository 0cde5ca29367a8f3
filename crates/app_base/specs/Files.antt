-- What a run says of the files that it reads, by the words that name them.
use Rattle.std.specs.Prelude.{◌≡◌, ◌⊎◌, ℕ, List, [], ◌∷◌, Result, Ok, Err}
use Rattle.app_base.specs.declared.console.Stream.TheVariants.{Error}
use Rattle.app_base.specs.declared.status.Status.TheVariants.{RefusedFile}
use Rattle.app_base.specs.declared.files.UnreadFile.{UnreadFile}
use Rattle.app_base.specs.declared.files.UnreadFile.TheVariants.{NoText}
use Rattle.app_base.specs.Ending.{Saying}
use Rattle.app_base.specs.Report.{file_line}

-- what a reading of the file that a word names may give: its text, or why it isn't read
abbrev pub Readings : Type 1
Readings = List ℕ → Result (List ℕ) UnreadFile → Type 0

-- the files that the words name are read, and give these texts
abbrev pub FilesGive : Readings → (words texts : List (List ℕ)) → Type 0
FilesGive gives [] [] = Unit {0}
FilesGive gives (word ∷ words) (text ∷ texts) = gives word (Ok text) × FilesGive gives words texts
FilesGive gives words texts = ⊥

-- of the files that the words name this one is the first that isn't read, and why
abbrev pub FirstUnread : Readings → (words : List (List ℕ)) → List ℕ → UnreadFile → Type 0
FirstUnread gives [] first why = ⊥
FirstUnread gives (word ∷ words) first why =
    ((word ≡ first) × gives word (Err why))
    ⊎ (((text : List ℕ) × gives word (Ok text)) × FirstUnread gives words first why)

-- what a run says of a file that isn't read, unless memory was refused: standard error names it
abbrev pub PrintsRefusal : UnreadFile → (word : List ℕ) → Saying
PrintsRefusal why word stream text status = (why ≡ NoText) × (stream ≡ Error) × (text ≡ file_line word) × (status ≡ RefusedFile)
