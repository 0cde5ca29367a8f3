-- What is ready before a manager runs its plan.
use Rattle.std.specs.Prelude.{◌≡◌, ◌⊎◌, ℕ, false, List, Option, IsSome, Ok, Err, map, string_bytes}
use Rattle.std.specs.declared.alloc.AllocError.{AllocError}
use Rattle.undo_plans.specs.declared.plan.Plan.{Plan}
use Rattle.plan_file.specs.Kinds.{kind_of}
use Rattle.plan_file.specs.PlanHolds.{ReadsPlan}
use Rattle.model_lab.specs.Meaning.{lab_names}
use Rattle.undo_core.specs.Shown.{Represents}
use Rattle.app_base.specs.declared.console.Console.{Console}
use Rattle.app_base.specs.declared.files.TextFiles as texts
use Rattle.app_base.specs.Ending.{RunEnds}
use Rattle.app_base.specs.Files.{Readings}
use Rattle.app_journal.specs.declared.files.WritesFiles.{Ghosts}
use Rattle.app_journal.specs.declared.claiming.Claim.TheVariants as claim
use Rattle.app_journal.specs.declared.claiming.Taken.{Taken}
use Rattle.app_journal.specs.declared.undo_files.UndoFiles.{UndoFiles}
use Rattle.app_run.specs.declared.preparing.Prepared.{Prepared}
use Rattle.app_run.specs.declared.running.RunWords.{RunWords}
use Rattle.app_run.specs.Driven.{opened_with}
use Rattle.app_run.specs.Ends.{PrintsNothing, SaysFile}
use Rattle.app_run.specs.Greeted.{greetings_before_run}
use Rattle.app_run.specs.Outcome.{MakesPart}
use Rattle.app_run.specs.Run.{ClaimsFor, SaysFault, SaysUnread, TellsAside}
use Rattle.app_run.specs.Strict.{is_refused}

-- the plan's file has the text of this plan, which isn't refused strictly
abbrev pub HasPlan : Readings → RunWords → Plan → Type 0
HasPlan gives words plan =
    (text : List ℕ) × gives (string_bytes words.plan) (Ok text) × ReadsPlan text (Ok plan) × (is_refused words.strict text plan ≡ false)

-- it can't be read, or its text is no plan, or is refused strictly: standard error says why
abbrev pub EndsPlanless : {Stdout Stderr : Type 0} → (out : Stdout → Option (List ℕ)) → (err : Stderr → Option (List ℕ)) → Readings → RunWords
    → (old new : Console Stdout Stderr) → ℕ → Type 0
EndsPlanless out err gives words old new result =
    ((text : List ℕ) × gives (string_bytes words.plan) (Ok text) × RunEnds out err (SaysFault words.strict text) old new result)
    ⊎ RunEnds out err (SaysUnread gives (string_bytes words.plan)) old new result

-- The files of the word UNDO are refused, and standard error names the file; or memory was refused; or it couldn't be said what was put aside.
abbrev pub EndsUnclaimed : {Files Stdout Stderr : Type 0} → (out : Stdout → Option (List ℕ)) → (err : Stderr → Option (List ℕ)) → texts.Ghosts Files → Ghosts Files → RunWords
    → (before after : Files) → (old new : Console Stdout Stderr) → ℕ → Type 0
EndsUnclaimed out err read files words before after old new result =
    ((taken : Taken) × ClaimsFor read files words (Ok (claim.Taken taken)) before after × IsSome taken.aside × RunEnds out err PrintsNothing old new result)
    ⊎ ((ClaimsFor read files words (Ok claim.Refused) before after × RunEnds out err (SaysFile (string_bytes words.undo)) old new result)
    ⊎ ((refused : AllocError) × ClaimsFor read files words (Err refused) before after × RunEnds out err PrintsNothing old new result))

-- a manager of this plan did nothing yet, and `.part` was made with its journal
pub record IsMade {Files : Type 0} (files : Ghosts Files) (plan : Plan) (beside : UndoFiles) (words : RunWords) (prepared : Prepared) (old new : Files) : Type 0 where
  pub same : prepared.beside ≡ beside
  pub shown : Represents lab_names prepared.ready.manager (opened_with plan)
  pub kinds : prepared.ready.kinds.items ≡ map kind_of plan.steps
  pub greetings : prepared.ready.greetings ≡ greetings_before_run words.greet plan
  pub makes : MakesPart files plan beside (string_bytes prepared.ready.texts.last) old (Ok tt) new

-- the plan is that of the file, the files of the word UNDO are claimed, and what was put aside is said
pub record IsPrepared {Files Stdout Stderr : Type 0} (out : Stdout → Option (List ℕ)) (err : Stderr → Option (List ℕ)) (read : texts.Ghosts Files) (files : Ghosts Files) (words : RunWords)
    (prepared : Prepared) (before after : Files) (old new : Console Stdout Stderr) : Type 0 where
  pub plan : Plan
  pub has : HasPlan (read.gives before) words plan
  pub taken : Taken
  pub held : Files
  pub claims : ClaimsFor read files words (Ok (claim.Taken taken)) before held
  pub told : TellsAside out err taken.aside old new
  pub made : IsMade files plan taken.beside words prepared held after
