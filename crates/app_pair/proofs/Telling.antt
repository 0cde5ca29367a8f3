-- What a pair came to, and what is said of it.
use Rattle.std.specs.Prelude.{IfOk, Option, Some, None}
use Rattle.std.proofs.Common.{◌≡◌, ◌⊎◌, refl, inl, inr, sym, subst, ℕ, Bool, false, List, Result, Ok, Err, string_bytes}
use Rattle.undo_plans.specs.declared.plan.Plan.{Plan}
use Rattle.model_undo.specs.declared.phase.Phase.{Phase}
use Rattle.model_lab.specs.Meaning.{lab_names}
use Rattle.model_lab.specs.ManagerSteps.{ManagerStepResult, board_plans, called}
use Rattle.model_undo.specs.declared.call.Call.TheVariants.{Start, Undo}
use Rattle.undo_core.specs.declared.manager.Manager.{Manager}
use Rattle.undo_core.specs.Shown.{Represents}
use Rattle.bmc_ports.specs.Driving.{Links}
use Rattle.app_base.specs.declared.report.Report.{Report}
use Rattle.app_base.specs.declared.console.Stream.{Stream}
use Rattle.app_base.specs.declared.console.Stream.TheVariants.{Output}
use Rattle.app_base.specs.declared.status.Status.TheVariants.{Stopped}
use Rattle.app_base.specs.declared.ending.ReportFault.{ReportFault}
use Rattle.app_base.specs.declared.ending.ReportFault.TheVariants as untold
use Rattle.app_base.specs.Ending.{ReportTells, Saying}
use Rattle.app_base.specs.Refusals.{SaysUnless, is_loose}
use Rattle.app_run.specs.Driven.{DrivenState, DrivesAgain, RunFrom, CallRun, opened_with, fresh_links}
use Rattle.app_pair.specs.declared.inputs.Inputs.{Inputs}
use Rattle.app_pair.specs.declared.pairing.PairOptions.{PairOptions}
use Rattle.app_pair.specs.Inputs.{InputsAreRead}
use Rattle.app_pair.specs.Paired.{RunsAndUndoes, TellsPair}
use Rattle.app_pair.specs.PairRun.{SaysPair, PrintsPair}

-- a reader's fault is that it was refused memory, or it isn't
pub is_fault : (A : Type 0) {E R : Type 0} (why memory : E) → (◌≡◌ {A = Result A E} (Err why) (Err memory)) ⊎ R → (why ≡ memory) ⊎ R
is_fault A why memory (inl e) = inl (cc e)
is_fault A why memory (inr r) = inr r

-- ---- the manager

-- whatever comes of a call, the manager shows some machine then
pub shown_then : (called : Option (ManagerStepResult (board_plans lab_names))) (turns : ℕ) (before : DrivenState) (m : Manager) (phase : Phase) (counted counts : Links)
    → RunFrom (DrivesAgain 0 turns) called before m (Ok phase) counted counts → (s : DrivenState) × Represents lab_names m s
shown_then (Some deed) turns before m phase counted counts drives = (drives.after, drives.shown)
shown_then None turns before m phase counted counts rests = (before, rests.shown)

-- a manager that was driven for its plan, and then for its undo
pub ran_and_undid : (plan : Plan) (turns : ℕ) (mid last : Manager) (run undid : Phase) (begun half counts : Links)
    → begun ≡ fresh_links → CallRun Start turns (opened_with plan) mid run begun half
    → ((s : DrivenState) → Represents lab_names mid s → CallRun Undo turns s last undid half counts) → RunsAndUndoes plan turns run undid
ran_and_undid plan turns mid last run undid begun half counts is_fresh runs undoes =
    let then = shown_then (called (board_plans lab_names) Start (opened_with plan)) turns (opened_with plan) mid run begun half runs in
    record {
      mid = mid;
      between = then.0;
      shown = then.1;
      half = half;
      runs = subst (λ (links : Links). CallRun Start turns (opened_with plan) mid run links half) is_fresh runs;
      last = last;
      counts = counts;
      undoes = undoes then.0 then.1;
    }

-- ---- what is said

-- what a report of inputs tells is said of them
pub pair_said : (inputs : Inputs) (options : PairOptions) (report : Result Report ReportFault)
    → IfOk report (λ r. r.stream ≡ Output) → IfOk report (λ r. TellsPair inputs.file inputs.plan options (string_bytes r.text) r.status)
    → ReportTells (SaysPair inputs options) report
pair_said inputs options (Ok report) to told = subst (λ (s : Stream). SaysPair inputs options s (string_bytes report.text) report.status) (sym to) told
pair_said inputs options (Err untold.Memory) to told = tt
pair_said inputs options (Err untold.Stopped) to told = (refl, refl)

-- what is said of files that aren't refused is said unless they are
pub said_unless : (loose : Bool) (says : Saying) (report : Result Report ReportFault) → loose ≡ false → ReportTells says report → ReportTells (SaysUnless loose says) report
said_unless loose says (Ok report) fits said = inr (fits, said)
said_unless loose says (Err untold.Memory) fits said = tt
said_unless loose says (Err untold.Stopped) fits said = inr (fits, said)

-- what is said of what the texts tell is said of the texts
pub pair_told : (board plan : List ℕ) (options : PairOptions) (inputs : Inputs) (report : Result Report ReportFault) → InputsAreRead board plan (Ok inputs)
    → ReportTells (SaysUnless (is_loose options.strict board plan inputs.plan) (SaysPair inputs options)) report → ReportTells (PrintsPair board plan options) report
pair_told board plan options inputs (Ok report) reads told = inl (inputs, reads, told)
pair_told board plan options inputs (Err untold.Memory) reads told = tt
pair_told board plan options inputs (Err untold.Stopped) reads told = inl (inputs, reads, told)
