-- How a run of `bmcnet run` ends: what it says, and what it leaves of the files.
use Rattle.std.specs.Prelude.{◌≡◌, ◌≢◌, ◌⊎◌, ℕ, Bool, false, List, Option, IsSome, Some, None, Result, Ok, Err, String, string_bytes}
use Rattle.std.specs.declared.alloc.Global.{Global}
use Rattle.std.specs.declared.alloc.AllocError.{AllocError}
use Rattle.undo_plans.specs.declared.plan.Plan.{Plan}
use Rattle.plan_file.specs.declared.plan_fault.PlanFault.{PlanFault}
use Rattle.plan_file.specs.PlanHolds.{ReadsPlan}
use Rattle.model_undo.specs.declared.phase.Phase.{Phase}
use Rattle.app_base.specs.declared.console.Console.{Console}
use Rattle.app_base.specs.declared.console.Stream.TheVariants.{Error}
use Rattle.app_base.specs.declared.status.Status.{Status}
use Rattle.app_base.specs.declared.status.Status.TheVariants.{RefusedFile, Success}
use Rattle.app_base.specs.declared.files.UnreadFile.{UnreadFile}
use Rattle.app_base.specs.declared.ending.ReportFault.{ReportFault}
use Rattle.app_base.specs.Console.{IsWrittenTo}
use Rattle.app_base.specs.declared.files.TextFiles as texts
use Rattle.app_base.specs.Ending.{Saying, RunEnds, SaysReport}
use Rattle.app_base.specs.Files.{Readings, PrintsRefusal}
use Rattle.app_base.specs.Report.{byte_of, file_line}
use Rattle.app_run.specs.declared.running.RunWords.{RunWords}
use Rattle.app_run.specs.declared.running.Outcome.{Outcome}
use Rattle.app_run.specs.declared.running.Outcome.TheVariants.{Ran, Unmade, Ungreeted}
use Rattle.app_journal.specs.declared.files.WritesFiles.{Ghosts}
use Rattle.app_journal.specs.declared.claiming.Claim.{Claim}
use Rattle.app_journal.specs.declared.claiming.Claim.TheVariants as claim
use Rattle.app_journal.specs.declared.claiming.Taken.{Taken}
use Rattle.app_journal.specs.Claiming.{Claims}
use Rattle.app_run.specs.Ends.{EndsUngreeted, PrintsNothing, SaysFile, SaysPhase, TellsBoth}
use Rattle.app_run.specs.Lines.{aside_line, phase_line, plan_line}
use Rattle.app_run.specs.Outcome.{RunEnd}
use Rattle.app_run.specs.Strict.{SaysRefused, is_refused, ran_status}

-- standard output has the phase's line, standard error names the file, and the status is 3
abbrev pub EndsUnkept : {Stdout Stderr : Type 0} → (out : Stdout → Option (List ℕ)) → (err : Stderr → Option (List ℕ)) → Phase → (word : List ℕ) → (old new : Console Stdout Stderr) → ℕ → Type 0
EndsUnkept out err phase word = TellsBoth out err (phase_line phase) (file_line word) RefusedFile

-- So a run ends of which that came: it says the phase, and behind it the file that isn't kept, or which greeting wasn't answered; or the file
-- that can't be made; or nothing, where a link can't be had.
abbrev pub EndsBy : {Stdout Stderr : Type 0} → (out : Stdout → Option (List ℕ)) → (err : Stderr → Option (List ℕ)) → RunWords → Result Outcome ReportFault → (old new : Console Stdout Stderr) → ℕ → Type 0
EndsBy out err words (Ok (Ran phase (Ok kept))) old new result =
    RunEnds out err (SaysPhase phase (ran_status words.strict phase)) old new result
EndsBy out err words (Ok (Ran phase (Err why))) old new result =
    RunEnds out err PrintsNothing old new result ⊎ EndsUnkept out err phase (string_bytes words.undo) old new result
EndsBy out err words (Ok Unmade) old new result = RunEnds out err (SaysFile (string_bytes words.undo)) old new result
EndsBy out err words (Ok (Ungreeted phase why)) old new result =
    RunEnds out err PrintsNothing old new result ⊎ EndsUngreeted out err phase why words.strict old new result
EndsBy out err words (Err why) old new result = RunEnds out err (SaysReport (Err why)) old new result

-- the files of the word UNDO are claimed
abbrev pub ClaimsFor : {Files : Type 0} → texts.Ghosts Files → Ghosts Files → RunWords → Result Claim AllocError → (old new : Files) → Type 0
ClaimsFor read files words = Claims read files (string_bytes words.undo) words.replace

-- nothing was put aside, and nothing is said of it; or standard error has its new name
abbrev pub TellsAside : {Stdout Stderr : Type 0} → (out : Stdout → Option (List ℕ)) → (err : Stderr → Option (List ℕ)) → (aside : Option (String Global)) → (old new : Console Stdout Stderr) → Type 0
TellsAside out err None old new = new ≡ old
TellsAside out err (Some name) old new = IsWrittenTo Error (aside_line (string_bytes name)) (out old.out) (out new.out) (err old.err) (err new.err)

-- that is said, with this status; or not, with another
abbrev pub AsideIsTold : {Stdout Stderr : Type 0} → (out : Stdout → Option (List ℕ)) → (err : Stderr → Option (List ℕ)) → (aside : Option (String Global)) → (old new : Console Stdout Stderr) → Status → Type 0
AsideIsTold out err aside old new status =
    ((status ≡ Success) × TellsAside out err aside old new) ⊎ ((status ≢ Success) × IsSome aside × RunEnds out err PrintsNothing old new (byte_of status))

-- So a run of a plan ends once the files are claimed: what was put aside is said first. Where that can't be said, nothing is begun.
abbrev pub RunEndsWith : {Files Stdout Stderr : Type 0} → (out : Stdout → Option (List ℕ)) → (err : Stderr → Option (List ℕ)) → Ghosts Files → Plan → Taken → RunWords
    → (before after : Files) → (old new : Console Stdout Stderr) → ℕ → Type 0
RunEndsWith {Files} {Stdout} {Stderr} out err files plan taken words before after old new result =
    ((mid : Console Stdout Stderr) × (outcome : Result Outcome ReportFault) × TellsAside out err taken.aside old mid
    × RunEnd files plan taken.beside words outcome before after × EndsBy out err words outcome mid new result)
    ⊎ (IsSome taken.aside × (after ≡ before) × RunEnds out err PrintsNothing old new result)

-- so a run of a plan ends: its files are claimed first. Where they are refused, standard error names the file, and nothing is sent.
abbrev pub RunEndsOver : {Files Stdout Stderr : Type 0} → (out : Stdout → Option (List ℕ)) → (err : Stderr → Option (List ℕ)) → texts.Ghosts Files → Ghosts Files → Plan → RunWords
    → (before after : Files) → (old new : Console Stdout Stderr) → ℕ → Type 0
RunEndsOver {Files} out err read files plan words before after old new result =
    ((taken : Taken) × (held : Files) × ClaimsFor read files words (Ok (claim.Taken taken)) before held × RunEndsWith out err files plan taken words held after old new result)
    ⊎ ((ClaimsFor read files words (Ok claim.Refused) before after × RunEnds out err (SaysFile (string_bytes words.undo)) old new result)
    ⊎ ((refused : AllocError) × ClaimsFor read files words (Err refused) before after × RunEnds out err PrintsNothing old new result))

-- why a text is no plan, as standard error says it; or that a strict run refuses its plan
abbrev pub SaysFault : (strict : Bool) → (text : List ℕ) → Saying
SaysFault strict text stream said status =
    ((why : PlanFault) × ReadsPlan text (Err why) × (stream ≡ Error) × (said ≡ plan_line why) × (status ≡ RefusedFile))
    ⊎ ((plan : Plan) × ReadsPlan text (Ok plan) × SaysRefused (is_refused strict text plan) stream said status)

-- so a run of a plan's text ends: as one of the plan; or it says why the text is none, or is refused strictly, and writes no file
abbrev pub RunEndsOn : {Files Stdout Stderr : Type 0} → (out : Stdout → Option (List ℕ)) → (err : Stderr → Option (List ℕ)) → texts.Ghosts Files → Ghosts Files → (text : List ℕ) → RunWords
    → (before after : Files) → (old new : Console Stdout Stderr) → ℕ → Type 0
RunEndsOn out err read files text words before after old new result =
    ((plan : Plan) × ReadsPlan text (Ok plan) × (is_refused words.strict text plan ≡ false) × RunEndsOver out err read files plan words before after old new result)
    ⊎ ((after ≡ before) × RunEnds out err (SaysFault words.strict text) old new result)

-- why the file of a plan isn't read, as standard error says it
abbrev pub SaysUnread : Readings → (named : List ℕ) → Saying
SaysUnread gives named stream said status = (why : UnreadFile) × gives named (Err why) × PrintsRefusal why named stream said status

-- so a run of a plan's file ends: as one of its text; or it says that the file isn't read, and writes none
abbrev pub RunEndsOf : {Files Stdout Stderr : Type 0} → (out : Stdout → Option (List ℕ)) → (err : Stderr → Option (List ℕ)) → texts.Ghosts Files → Ghosts Files → (named : List ℕ) → RunWords
    → (before after : Files) → (old new : Console Stdout Stderr) → ℕ → Type 0
RunEndsOf out err read files named words before after old new result =
    ((text : List ℕ) × read.gives before named (Ok text) × RunEndsOn out err read files text words before after old new result)
    ⊎ ((after ≡ before) × RunEnds out err (SaysUnread (read.gives before) named) old new result)
