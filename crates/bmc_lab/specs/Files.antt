-- What a run says of a frame to a controller whose board a file may hold.
use Rattle.std.specs.Prelude.{◌⊎◌, ℕ, List, Option, None, Some, Ok, Err}
use Rattle.two_wire.specs.declared.Bus.{Bus}
use Rattle.app_base.specs.declared.files.UnreadFile.{UnreadFile}
use Rattle.app_base.specs.Ending.{Saying}
use Rattle.app_base.specs.Files.{Readings, PrintsRefusal}
use Rattle.bmc_lab.specs.Run.{PrintsFrame}

-- what a run says of a frame: what it says on the board of the file's text, or on the sample board where no word names a file; or that the file isn't read
abbrev pub SaysOfFile : Readings → Option (List ℕ) → Bus → List ℕ → Saying
SaysOfFile gives None bus bytes stream text status = PrintsFrame None bus bytes stream text status
SaysOfFile gives (Some word) bus bytes stream text status =
    ((board : List ℕ) × gives word (Ok board) × PrintsFrame (Some board) bus bytes stream text status)
    ⊎ ((why : UnreadFile) × gives word (Err why) × PrintsRefusal why word stream text status)
