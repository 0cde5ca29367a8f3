-- What a run says of two files, by the words that name them.
use Rattle.std.specs.Prelude.{◌⊎◌, ℕ, List, [], ◌∷◌}
use Rattle.app_base.specs.declared.files.UnreadFile.{UnreadFile}
use Rattle.app_base.specs.Ending.{Saying}
use Rattle.app_base.specs.Files.{Readings, FilesGive, FirstUnread, PrintsRefusal}
use Rattle.app_play.specs.Run.{PrintsPlay}
use Rattle.lab_play.specs.declared.schedule_making.ScheduleOptions.{ScheduleOptions}
use Rattle.app_bmclab.specs.declared.schedule_files.ScheduleFiles.{ScheduleFiles}
use Rattle.app_bmclab.specs.Writes.{WritesSchedule}

-- the words, in their order
abbrev pub words_of : ScheduleFiles → List (List ℕ)
words_of files = files.board.now ∷ files.plan.now ∷ []

-- the two files that the words name are read, and have these texts
abbrev pub ArePlanTexts : Readings → (words : List (List ℕ)) → (board plan : List ℕ) → Type 0
ArePlanTexts gives words board plan = FilesGive gives words (board ∷ plan ∷ [])

-- What a run says of the files that the words name: the schedule of the plan on the board, or which of the texts is refused; or that one isn't
-- read, the first of them. The texts are read as those of a play whose schedule is empty.
abbrev pub PrintsScheduleOfFiles : Readings → ScheduleOptions → (words : List (List ℕ)) → Saying
PrintsScheduleOfFiles gives wanted words stream text status =
    ((board : List ℕ) × (plan : List ℕ) × ArePlanTexts gives words board plan × PrintsPlay (WritesSchedule wanted) board plan [] stream text status)
    ⊎ ((word : List ℕ) × (why : UnreadFile) × FirstUnread gives words word why × PrintsRefusal why word stream text status)
