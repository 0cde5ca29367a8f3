-- How a run of a command line ends.
use Rattle.std.specs.Prelude.{◌≡◌, ◌⊎◌, ℕ, false, List, Option, string_bytes}
use Rattle.clap.specs.Words.{Text}
use Rattle.app_base.specs.declared.console.Console.{Console}
use Rattle.app_base.specs.declared.console.Stream.TheVariants.{Error}
use Rattle.app_base.specs.declared.status.Status.TheVariants.{RefusedWords}
use Rattle.app_base.specs.Ending.{RunEnds, Saying}
use Rattle.app_base.specs.declared.files.TextFiles as texts
use Rattle.app_base.specs.Version.{SaysVersion}
use Rattle.app_serve.specs.Run.{ServeEnds}
use Rattle.app_journal.specs.declared.files.WritesFiles.{Ghosts}
use Rattle.app_run.specs.Run.{RunEndsOf}
use Rattle.app_run.specs.Undo.{UndoEndsOf}
use Rattle.app_run.specs.declared.progress.Progress.{Progress}
use Rattle.app_run.specs.Told.{TellsFile, TellsUndoOf}
use Rattle.app_change.specs.Ends.{ChangeEndsOf}
use Rattle.app_change.specs.Back.{BackEndsOf}
use Rattle.app_show.specs.Show.{ShowEndsOf}
use Rattle.app_pair.specs.PairRun.{PrintsPairOfFiles, words_of}
use Rattle.app_change.specs.Preview.{PreviewEndsOf}
use Rattle.bmcnet.specs.declared.words.Words.{Words}
use Rattle.bmcnet.specs.declared.words.Words.TheVariants.{Serve, Run, Undo, Pair, Apply, Revert, Preview, Show, Version}
use Rattle.bmcnet.specs.Asked.{AsksFor}

-- So a run ends that does what words ask for: as `serve`, `run`, `undo`, `pair`, `apply`, `revert`, `preview` or `show` does with the files that they
-- name, or by the version.
abbrev pub EndsAsAsked : {Files Stdout Stderr : Type 0} → (out : Stdout → Option (List ℕ)) → (err : Stderr → Option (List ℕ)) → texts.Ghosts Files → Ghosts Files → Words → (before after : Files)
    → (old new : Console Stdout Stderr) → ℕ → Type 0
EndsAsAsked out err read files (Serve asked) before after old new result =
    (after ≡ before) × ServeEnds out err (read.gives before) asked old new result
EndsAsAsked out err read files (Run asked) before after old new result =
    RunEndsOf out err read files (string_bytes asked.plan) asked before after old new result
EndsAsAsked out err read files (Undo asked) before after old new result =
    UndoEndsOf out err read files asked before after old new result
EndsAsAsked out err read files (Pair asked) before after old new result =
    (after ≡ before) × RunEnds out err (PrintsPairOfFiles (read.gives before) (words_of asked) asked.options) old new result
EndsAsAsked out err read files (Apply asked) before after old new result =
    ChangeEndsOf out err read files (string_bytes asked.apply.plan) asked before after old new result
EndsAsAsked out err read files (Revert asked) before after old new result =
    BackEndsOf out err read files (string_bytes asked.revert.file) asked before after old new result
EndsAsAsked out err read files (Preview asked) before after old new result =
    (after ≡ before) × PreviewEndsOf out err (read.gives before) asked old new result
EndsAsAsked out err read files (Show asked) before after old new result =
    ShowEndsOf out err files asked before after old new result
EndsAsAsked out err read files Version before after old new result =
    (after ≡ before) × RunEnds out err SaysVersion old new result

-- So is told of how far that is: `run` and `undo` tell it, and `apply` and `revert`, of which is known that nothing is told where no line is written.
abbrev pub MayTellAsAsked : {Files Writer : Type 0} → (out : Writer → Option (List ℕ)) → texts.Ghosts Files → Ghosts Files → Words → (before : Files) → (old new : Progress Writer) → Type 0
MayTellAsAsked out read files (Run asked) before old new = TellsFile out (read.gives before) (string_bytes asked.plan) old new
MayTellAsAsked out read files (Undo asked) before old new = TellsUndoOf out read files (string_bytes asked.undo) before old new
MayTellAsAsked out read files (Apply asked) before old new = old.on ≡ false → new ≡ old
MayTellAsAsked out read files (Revert asked) before old new = old.on ≡ false → new ≡ old
MayTellAsAsked out read files asked before old new = new ≡ old

-- what a run says of words that ask for nothing: any text on standard error, with the status of refused words
abbrev pub SaysNothingAsked : (words : List Text) → Saying
SaysNothingAsked words stream text status = ((asked : Words) → AsksFor words asked → ⊥) × (stream ≡ Error) × (status ≡ RefusedWords)

-- So a run of a command line's words ends: as what they ask for, or, where they ask for nothing, with the status of refused words.
abbrev pub LineEnds : {Files Stdout Stderr : Type 0} → (out : Stdout → Option (List ℕ)) → (err : Stderr → Option (List ℕ)) → texts.Ghosts Files → Ghosts Files → (words : List Text) → (before after : Files)
    → (old new : Console Stdout Stderr) → ℕ → Type 0
LineEnds out err read files words before after old new result =
    ((asked : Words) × AsksFor words asked × EndsAsAsked out err read files asked before after old new result)
    ⊎ ((after ≡ before) × RunEnds out err (SaysNothingAsked words) old new result)

-- So a run of a command line's words tells how far it is: as what they ask for, or, where they ask for nothing, not at all.
abbrev pub LineTells : {Files Writer : Type 0} → (out : Writer → Option (List ℕ)) → texts.Ghosts Files → Ghosts Files → (words : List Text) → (before : Files) → (old new : Progress Writer) → Type 0
LineTells out read files words before old new =
    ((asked : Words) × AsksFor words asked × MayTellAsAsked out read files asked before old new)
    ⊎ (new ≡ old)
