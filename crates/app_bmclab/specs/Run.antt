-- What a run of a command line says.
use Rattle.std.specs.Prelude.{◌≡◌, ◌⊎◌, ℕ, Bool, true, false, List, [], ◌∷◌, Option, map, option_map, string_bytes}
use Rattle.clap.specs.Words.{Text}
use Rattle.two_wire.specs.declared.Bus.{Bus}
use Rattle.app_base.specs.declared.console.Stream.TheVariants.{Error}
use Rattle.app_base.specs.declared.status.Status.TheVariants.{RefusedWords}
use Rattle.app_base.specs.Ending.{Saying}
use Rattle.app_base.specs.Files.{Readings}
use Rattle.app_base.specs.Version.{SaysVersion}
use Rattle.bmc_lab.specs.Files.{SaysOfFile}
use Rattle.app_play.specs.Strict.{PrintsAskedOfFiles}
use Rattle.app_bmclab.specs.ScheduledFiles.{PrintsScheduleOfFiles as SaysOfScheduled}
use Rattle.bmc_lab.specs.AskFiles.{SaysOfAsk, SaysOfExplained}
use Rattle.app_bmclab.specs.declared.check_words.CheckWay.{CheckWay}
use Rattle.app_bmclab.specs.declared.check_words.CheckWay.TheVariants.{Alone, Against}
use Rattle.app_bmclab.specs.declared.words.Words.{Words}
use Rattle.app_bmclab.specs.declared.words.Words.TheVariants.{Frame, Ask, Play, Schedule, Check, Version}
use Rattle.app_bmclab.specs.Asked.{AsksFor}
use Rattle.app_bmclab.specs.Checks.{SaysOfChecks}
use Rattle.app_bmclab.specs.Against.{SaysOfAgainst}

-- what a run says of a frame, which it explains or not
abbrev pub SaysOfFrame : Readings → (explain : Bool) → Option (List ℕ) → Bus → List ℕ → Saying
SaysOfFrame gives true = SaysOfExplained gives
SaysOfFrame gives false = SaysOfFile gives

-- what a run says of files that it checks in this way
abbrev pub SaysOfCheckedBy : Readings → CheckWay → (words : List Text) → Saying
SaysOfCheckedBy gives (Alone said) words = SaysOfChecks gives said words
SaysOfCheckedBy gives (Against board) words = SaysOfAgainst gives (string_bytes board) words

-- what a run says that does what words ask for: what it says of the frame or of the request, with the board file that is named, of the three files
-- of the play, of the two of the schedule that is made, of the files that it checks, or of the version
abbrev pub SaysOfWords : Readings → Words → Saying
SaysOfWords gives (Frame asked) = SaysOfFrame gives asked.explain (option_map string_bytes asked.board) asked.frame.bus asked.frame.bytes.items
SaysOfWords gives (Ask asked) = SaysOfAsk gives (option_map string_bytes asked.board) asked.request
SaysOfWords gives (Play asked) = PrintsAskedOfFiles gives asked.options asked.shown asked.restarts.items (string_bytes asked.board ∷ string_bytes asked.plan ∷ string_bytes asked.schedule ∷ [])
SaysOfWords gives (Schedule asked) = SaysOfScheduled gives asked.wanted (string_bytes asked.board ∷ string_bytes asked.plan ∷ [])
SaysOfWords gives (Check asked) = SaysOfCheckedBy gives asked.way (map string_bytes asked.files.items)
SaysOfWords gives Version = SaysVersion

-- What a run says of a command line's words: what it says of what they ask for; or, where they ask for nothing, any text on standard error,
-- with the status of refused words.
abbrev pub SaysOfLine : Readings → (words : List Text) → Saying
SaysOfLine gives words stream text status =
    ((asked : Words) × AsksFor words asked × SaysOfWords gives asked stream text status)
    ⊎ (((asked : Words) → AsksFor words asked → ⊥) × (stream ≡ Error) × (status ≡ RefusedWords))
