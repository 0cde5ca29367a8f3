-- What comes of a plan that is begun.
use Rattle.std.specs.declared.alloc.Global.{Global}
use Rattle.std.specs.Prelude.{String, Option, Some, None, Result, Ok, Err, IsErr, IfSome, IfNone, OnErr}
use Rattle.std.proofs.Common.{◌≡◌, ℕ, List, true, inl, inr, refl, subst, sym}
use Rattle.model_undo.specs.declared.call.Call.TheVariants.{Start, Again}
use Rattle.model_undo.specs.declared.phase.Phase.{Phase}
use Rattle.undo_core.specs.declared.manager.Manager.{Manager}
use Rattle.bmc_ports.specs.declared.observer.KeptBack.{KeptBack}
use Rattle.app_journal.specs.declared.files.WriteFault.{WriteFault}
use Rattle.app_journal.specs.declared.files.WritesFiles as written
use Rattle.app_journal.specs.declared.undo_files.UndoFiles.{UndoFiles}
use Rattle.app_journal.specs.Reviving.{IsMadeOf}
use Rattle.app_run.specs.Driven.{DriveEnd, is_over}
use Rattle.app_apply.specs.declared.outcome.Outcome.{Outcome}
use Rattle.app_apply.specs.declared.applying.Applied.{Applied}
use Rattle.app_apply.specs.declared.applying.Ran.{Ran}
use Rattle.app_apply.specs.Apply.{Ends, IsUnmade, MayRun, NeverSettles, RunsOut, Settles}
use Rattle.app_apply.specs.Kept.{IsPhaseOf, KeepsWay}

-- what holds holds where a call failed
pub on_err : {T E P : Type 0} (came : Result T E) → P → OnErr came P
on_err (Ok value) holds = tt
on_err (Err why) holds = holds

module _ {Files : Type 0} (files : written.Ghosts Files) (beside : UndoFiles) (agains : ℕ) where
  -- a manager that was made of a text was called to try again, or no link could be had
  pub settled : (revived manager : Manager) (had has : List ℕ) (old new : Files) (came : Option DriveEnd) → IsMadeOf had revived
      → IfSome came (λ end. KeepsWay files.takes files.renames beside agains Again revived manager end had has old new)
      → IfNone came (manager ≡ revived) → IfNone came (has ≡ had) → IfNone came (new ≡ old) → Settles files beside agains manager had has old new
  settled revived manager had has old new (Some end) made keeps same text kept = (revived, made, inl (end, keeps))
  settled revived manager had has old new None made keeps same text kept = (revived, made, inr (same, text, kept))

  -- ---- a journal that couldn't be kept

  kept_back : (before first : Manager) (end : DriveEnd) (back : KeptBack) (had text : List ℕ) (old mid : Files) → end ≡ Err back
      → KeepsWay files.takes files.renames beside agains Start before first end had text old mid → KeepsWay files.takes files.renames beside agains Start before first (Err back) had text old mid
  kept_back before first end back had text old mid is keeps = subst (λ (e : DriveEnd). KeepsWay files.takes files.renames beside agains Start before first e had text old mid) is keeps

  -- the manager that was made of the last text settled what was open
  pub ran_unkept : (before first manager : Manager) (end : DriveEnd) (back : KeptBack) (phase : Phase) (why : WriteFault) (had text has : List ℕ) (old mid new : Files) → end ≡ Err back
      → KeepsWay files.takes files.renames beside agains Start before first end had text old mid → Settles files beside agains manager text has mid new → IsPhaseOf manager phase
      → RunsOut files beside agains before manager phase (Err why) had has old new
  ran_unkept before first manager end back phase why had text has old mid new is keeps settles at =
      (first, back, text, mid, kept_back before first end back had text old mid is keeps, settles, at)

  -- or none could be made
  pub never_settled : (before first : Manager) (end : DriveEnd) (back : KeptBack) (had text : List ℕ) (old mid new : Files) → end ≡ Err back
      → KeepsWay files.takes files.renames beside agains Start before first end had text old mid → new ≡ mid → IsUnmade text → NeverSettles files beside agains before had old new
  never_settled before first end back had text old mid new is keeps same unmade = (
    first,
    back,
    text,
    subst (λ (at : Files). KeepsWay files.takes files.renames beside agains Start before first (Err back) had text old at) (sym same) (kept_back before first end back had text old mid is keeps),
    unmade,
  )

  -- ---- the end

  -- a link could be had
  pub ran_so : (before manager : Manager) (had has : List ℕ) (old new : Files) (may : Option Ran) (ran : Ran) → may ≡ Some ran → MayRun files beside agains before manager had has old new may
      → RunsOut files beside agains before manager ran.phase ran.kept had has old new
  ran_so before manager had has old new may ran is runs = subst (λ (m : Option Ran). MayRun files beside agains before manager had has old new m) is runs

  -- memory for the text of the list was refused
  pub ends_unlisted : {Refused : Type 0} (before manager : Manager) (had has : List ℕ) (came : Result Outcome Refused) (old mid new : Files)
      → IsErr came → (may : Option Ran) (ran : Ran) → may ≡ Some ran
      → MayRun files beside agains before manager had has old mid may → is_over ran.phase ≡ true → new ≡ mid → Ends files beside agains before manager had came old new
  ends_unlisted before manager had has (Ok outcome) old mid new failed may ran is runs over same = cc failed
  ends_unlisted before manager had has (Err refused) old mid new failed may ran is runs over same =
      inl (
        ran.phase,
        ran.kept,
        has,
        over,
        subst (λ (at : Files). RunsOut files beside agains before manager ran.phase ran.kept had has old at) (sym same) (ran_so before manager had has old mid may ran is runs),
      )

-- a call that failed was refused
pub is_refused : {T E : Type 0} (came : Result T E) → IsErr came → (refused : E) × (came ≡ Err refused)
is_refused (Ok value) failed = cc failed
is_refused (Err why) failed = (why, refl)

-- what came of a plan is this
pub applied_is : (applied : Applied) (manager : Manager) (outcome : Outcome) (aside : Option (String Global)) → applied.manager ≡ manager → applied.outcome ≡ outcome → applied.aside ≡ aside
    → applied ≡ record { manager = manager; outcome = outcome; aside = aside }
applied_is applied manager outcome aside is_manager is_outcome is_aside = λ i. record { manager = is_manager i; outcome = is_outcome i; aside = is_aside i }
