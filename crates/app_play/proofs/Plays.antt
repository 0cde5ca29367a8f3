-- What is said of a play, once it is known how it ended and what its account is.
use Rattle.std.proofs.Common.{◌≡◌, ℕ, Bool, List, Option, Result, Ok, Err, Some, None, IfOk, string_bytes, sym, ◌∙◌, subst}
use Rattle.model_lab.specs.declared.fault.Fault.{Fault}
use Rattle.model_lab.specs.Played.{Told, Ending, Whole, Stops}
use Rattle.model_headline.specs.Plays.{taken_by, TellsPremise}
use Rattle.lab_play.specs.Ends.{TellsPlay, IsEnding, PlayResult}
use Rattle.lab_play.specs.declared.played.Played.{Played}
use Rattle.lab_play.specs.declared.played.LabFault.{LabFault}
use Rattle.lab_play.specs.declared.played.LabFault.TheVariants as fault
use Rattle.app_play.specs.declared.inputs.Inputs.{Inputs}
use Rattle.app_play.specs.declared.account.Account.{Account}
use Rattle.lab_play.specs.declared.run.Stopped.{Stopped}
use Rattle.app_play.specs.Ended.{given_of}
use Rattle.app_play.specs.Inputs.{InputsAreRead}
use Rattle.app_play.specs.Lines.{text_of}
use Rattle.app_base.specs.declared.console.Stream.{Stream}
use Rattle.app_base.specs.declared.console.Stream.TheVariants.{Output}
use Rattle.app_base.specs.declared.report.Report.{Report}
use Rattle.app_play.specs.Account.{AccountOf, IsAccountOf, status_of}
use Rattle.app_play.specs.Run.{begun_with, RecountsPlay, Telling, PrintsPlay}

-- whatever is told of what was played, the account says it
abbrev pub SaysOf : Account → Played → Type 0
SaysOf account played = (told : Told) → TellsPlay played told → AccountOf account told

-- a play of these inputs gave this
abbrev pub PlaysOf : Inputs → Result Played LabFault → Type 0
PlaysOf inputs given = PlayResult inputs.file inputs.plan.steps inputs.plan.retries inputs.events given

-- an account of a play of all events is that of its ending
pub whole_account : (played : Played) (ending : Ending) (account : Account) → IsEnding (Ok played) ending → SaysOf account played → account.stopped ≡ None → IsAccountOf account ending
whole_account played (Whole told) account is says none = (says told is, none)
whole_account played (Stops cause at told) account is says none = absurd is

-- and so is one of a play that an event's fault ended, where it names that
pub stopped_account : (why : Fault) (place : ℕ) (played : Played) (ending : Ending) (account : Account) → IsEnding (Err (fault.Event why place played)) ending → SaysOf account played
    → account.stopped ≡ Some (record { place = place; fault = why }) → IsAccountOf account ending
stopped_account why place played (Whole told) account is says named = absurd is
stopped_account why place played (Stops cause at told) account is says named = (says told is.2, (record { place = place; fault = why }, named, sym is.0, sym is.1))

-- the account's text recounts a play of all events
recounts_whole : {E : Type 0} (frames premises : Bool) (inputs : Inputs) (r : Result Report E) (played : Played) (account : Account) → PlaysOf inputs (Ok played) → SaysOf account played
    → account.broken ≡ played.watch.broken → account.stopped ≡ None → IfOk r (λ report. string_bytes report.text ≡ text_of frames premises account) → IfOk r (λ report. report.status ≡ status_of account.stopped)
    → IfOk r (λ report. RecountsPlay frames premises inputs (string_bytes report.text) report.status)
recounts_whole frames premises inputs (Ok report) played account plays says broken none said ended = record {
  ending = plays.ending;
  played = plays.played;
  premise = subst (TellsPremise inputs.file (taken_by inputs.events plays.ending) (begun_with inputs)) (sym broken) plays.premise;
  stands = λ none_broke. plays.unbroken (sym broken ∙ none_broke);
  account = account;
  is = whole_account played plays.ending account plays.is says none;
  said = said;
  ended = ended;
}
recounts_whole frames premises inputs (Err e) played account plays says broken none said ended = tt

-- and one that an event's fault ended
recounts_stopped : {E : Type 0} (frames premises : Bool) (inputs : Inputs) (r : Result Report E) (why : Fault) (place : ℕ) (played : Played) (account : Account)
    → PlaysOf inputs (Err (fault.Event why place played)) → SaysOf account played → account.broken ≡ played.watch.broken → account.stopped ≡ Some (record { place = place; fault = why })
    → IfOk r (λ report. string_bytes report.text ≡ text_of frames premises account) → IfOk r (λ report. report.status ≡ status_of account.stopped)
    → IfOk r (λ report. RecountsPlay frames premises inputs (string_bytes report.text) report.status)
recounts_stopped frames premises inputs (Ok report) why place played account plays says broken named said ended = record {
  ending = plays.ending;
  played = plays.played;
  premise = subst (TellsPremise inputs.file (taken_by inputs.events plays.ending) (begun_with inputs)) (sym broken) plays.premise;
  stands = λ none_broke. plays.unbroken (sym broken ∙ none_broke);
  account = account;
  is = stopped_account why place played plays.ending account plays.is says named;
  said = said;
  ended = ended;
}
recounts_stopped frames premises inputs (Err e) why place played account plays says broken named said ended = tt

-- the account's text recounts a play with these parts
pub recounts : {E : Type 0} (frames premises : Bool) (inputs : Inputs) (r : Result Report E) (given : Result Played LabFault) (played : Played) (stopped : Option Stopped) (account : Account)
    → given ≡ given_of played stopped → PlaysOf inputs given → SaysOf account played → account.broken ≡ played.watch.broken → account.stopped ≡ stopped
    → IfOk r (λ report. string_bytes report.text ≡ text_of frames premises account) → IfOk r (λ report. report.status ≡ status_of account.stopped)
    → IfOk r (λ report. RecountsPlay frames premises inputs (string_bytes report.text) report.status)
recounts frames premises inputs r given played None account same plays says broken named said ended =
    recounts_whole frames premises inputs r played account (subst (PlaysOf inputs) same plays) says broken named said ended
recounts frames premises inputs r given played (Some stopped) account same plays says broken named said ended =
    recounts_stopped frames premises inputs r stopped.fault stopped.place played account (subst (PlaysOf inputs) same plays) says broken named said ended

-- a report of the play that the texts tell says so
pub says_play : {E : Type 0} (tells : Telling) (board plan schedule : List ℕ) (r : Result Report E) (inputs : Inputs) → InputsAreRead board plan schedule (Ok inputs)
    → IfOk r (λ report. report.stream ≡ Output) → IfOk r (λ report. tells inputs (string_bytes report.text) report.status)
    → IfOk r (λ report. PrintsPlay tells board plan schedule report.stream (string_bytes report.text) report.status)
says_play tells board plan schedule (Ok report) inputs read written told =
    subst (λ (stream : Stream). PrintsPlay tells board plan schedule stream (string_bytes report.text) report.status) (sym written) (inputs, read, told)
says_play tells board plan schedule (Err e) inputs read written told = tt
