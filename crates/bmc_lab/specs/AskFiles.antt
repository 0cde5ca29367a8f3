-- What a run says of a request, or of a frame that it explains, to a controller whose board a file may hold.
use Rattle.std.specs.Prelude.{◌⊎◌, ℕ, List, Option, None, Some, Ok, Err}
use Rattle.two_wire.specs.declared.Bus.{Bus}
use Rattle.record_base.specs.declared.message.Asked.{Asked}
use Rattle.app_base.specs.declared.files.UnreadFile.{UnreadFile}
use Rattle.app_base.specs.Ending.{Saying}
use Rattle.app_base.specs.Files.{Readings, PrintsRefusal}
use Rattle.bmc_lab.specs.AskRun.{PrintsAsk, PrintsExplained}

-- what is said on the board of the file's text, or on the sample board where no word names a file; or that the file isn't read
abbrev pub SaysOnBoard : Readings → Option (List ℕ) → (Option (List ℕ) → Saying) → Saying
SaysOnBoard gives None Says stream text status = Says None stream text status
SaysOnBoard gives (Some word) Says stream text status =
    ((board : List ℕ) × gives word (Ok board) × Says (Some board) stream text status)
    ⊎ ((why : UnreadFile) × gives word (Err why) × PrintsRefusal why word stream text status)

-- what is said of a request
abbrev pub SaysOfAsk : Readings → Option (List ℕ) → Asked → Saying
SaysOfAsk gives board asked stream text status = SaysOnBoard gives board (λ file. PrintsAsk file asked) stream text status

-- what is said of a frame that is explained
abbrev pub SaysOfExplained : Readings → Option (List ℕ) → Bus → List ℕ → Saying
SaysOfExplained gives board bus bytes stream text status = SaysOnBoard gives board (λ file. PrintsExplained file bus bytes) stream text status
