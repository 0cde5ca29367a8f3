-- What a run says of three files, by the words that name them.
use Rattle.std.specs.Prelude.{◌⊎◌, ℕ, List, [], ◌∷◌}
use Rattle.app_base.specs.declared.files.UnreadFile.{UnreadFile}
use Rattle.app_base.specs.Ending.{Saying}
use Rattle.app_base.specs.Files.{Readings, FilesGive, FirstUnread, PrintsRefusal}
use Rattle.app_play.specs.declared.files.PlayFiles.{PlayFiles}

-- the words, in their order
abbrev pub words_of : PlayFiles → List (List ℕ)
words_of files = files.board.now ∷ files.plan.now ∷ files.schedule.now ∷ []

-- the three files that the words name are read, and have these texts
abbrev pub ArePlayTexts : Readings → (words : List (List ℕ)) → (board plan schedule : List ℕ) → Type 0
ArePlayTexts gives words board plan schedule = FilesGive gives words (board ∷ plan ∷ schedule ∷ [])

-- what a run says of the files that the words name: this of their texts, or that one isn't read, the first of them
abbrev pub PrintsOfFiles : Readings → ((board plan schedule : List ℕ) → Saying) → (words : List (List ℕ)) → Saying
PrintsOfFiles gives prints words stream text status =
    ((board : List ℕ) × (plan : List ℕ) × (schedule : List ℕ) × ArePlayTexts gives words board plan schedule × prints board plan schedule stream text status)
    ⊎ ((word : List ℕ) × (why : UnreadFile) × FirstUnread gives words word why × PrintsRefusal why word stream text status)
