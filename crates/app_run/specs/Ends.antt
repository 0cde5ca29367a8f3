-- How a run ends that says one thing, or two.
use Rattle.std.specs.Prelude.{◌≡◌, ℕ, Bool, List, Option}
use Rattle.std.specs.Io.KnownBytes.{Appends}
use Rattle.model_undo.specs.declared.phase.Phase.{Phase}
use Rattle.app_base.specs.declared.console.Console.{Console}
use Rattle.app_base.specs.declared.console.Stream.TheVariants.{Output, Error}
use Rattle.app_base.specs.declared.status.Status.{Status}
use Rattle.app_base.specs.declared.status.Status.TheVariants.{RefusedFile}
use Rattle.app_base.specs.Ending.{Saying}
use Rattle.app_base.specs.Report.{byte_of, file_line}
use Rattle.app_run.specs.declared.greeting.Unanswered.{Unanswered}
use Rattle.app_run.specs.Lines.{phase_line, unanswered_line}
use Rattle.app_run.specs.Strict.{ungreeted_status}

-- nothing is said: a run that ends so was refused memory, or couldn't write
abbrev pub PrintsNothing : Saying
PrintsNothing stream text status = ⊥

-- standard output has the phase's line, and the status is this
abbrev pub SaysPhase : Phase → (ends : Status) → Saying
SaysPhase phase ends stream text status = (stream ≡ Output) × (text ≡ phase_line phase) × (status ≡ ends)

-- standard error names the file of this word
abbrev pub SaysFile : (word : List ℕ) → Saying
SaysFile word stream text status = (stream ≡ Error) × (text ≡ file_line word) × (status ≡ RefusedFile)

-- standard output has one text, standard error the other, and the status is this
pub record TellsBoth {Stdout Stderr : Type 0} (out : Stdout → Option (List ℕ)) (err : Stderr → Option (List ℕ)) (line complaint : List ℕ) (status : Status) (old new : Console Stdout Stderr) (result : ℕ) : Type 0 where
  pub said : Appends (out old.out) (out new.out) line
  pub complained : Appends (err old.err) (err new.err) complaint
  pub ends : result ≡ byte_of status

-- standard output has the phase's line, standard error says which greeting wasn't answered, and the status is that, strictly or not
abbrev pub EndsUngreeted : {Stdout Stderr : Type 0} → (out : Stdout → Option (List ℕ)) → (err : Stderr → Option (List ℕ)) → Phase → Unanswered → (strict : Bool)
    → (old new : Console Stdout Stderr) → ℕ → Type 0
EndsUngreeted out err phase why strict = TellsBoth out err (phase_line phase) (unanswered_line why) (ungreeted_status strict)
