-- A manager's journal is that of the machine that the manager shows, and a manager that is made of a journal shows the machine that is made again.
use Rattle.std.proofs.Common.{◌≡◌, ℕ, zero, suc, ◌≤◌, Bool, List, [], ◌∷◌, length, Some, refl, sym, ◌∙◌, ap, subst, arith}
use Rattle.std.specs.Option.{option_map}
use Rattle.record_base.specs.declared.message.Asked.{Asked}
use Rattle.undo_plans.specs.declared.names.Names.{Names}
use Rattle.model_undo.specs.Machine as machine
use Rattle.model_lab.specs.ManagerSteps.{board_plans, ManagerState}
use Rattle.undo_plans.specs.declared.kept_stage.KeptStage.{KeptStage}
use Rattle.undo_plans.specs.declared.kept_stage.KeptStage.TheVariants as kept
use Rattle.undo_plans.specs.declared.kept_stage.KeptTask.TheVariants as kept_as
use Rattle.undo_plans.specs.Bounds.{most_kept}
use Rattle.undo_plans.specs.KeptManager.{Kept, IsToldToStop, waiting_at, stopped_at, replies_at}
use Rattle.undo_core.specs.declared.manager.Manager.{Manager}
use Rattle.undo_core.specs.declared.stage.Task.{Task}
use Rattle.undo_core.specs.declared.stage.Task.TheVariants as task
use Rattle.undo_core.specs.declared.stage.Stage.{Stage}
use Rattle.undo_core.specs.declared.stage.Stage.TheVariants as stage
use Rattle.undo_core.specs.Joining.{AreJoined}
use Rattle.undo_core.specs.Stages.{kept_task, kept_stage}
use Rattle.undo_core.specs.Placed.{IsAskedAt, IsPlaced, IsUnsent}
use Rattle.undo_core.specs.Shown.{words_of, own, IsStage, Represents}
use Rattle.undo_core.specs.Journals.{kept_by, IsKeptTask, IsKeptPart, IsKeptStage, IsJournalOf, RevivingIsRestarting}

-- ---- a journal is that of the machine

shown_at : (step parts : ℕ) (replies : List ℕ) (before : List (List ℕ)) → length before ≡ parts → AreJoined replies before
    → AreJoined (replies_at (kept.Open (kept_as.Get step) parts) replies) before
shown_at step parts replies [] many are = tt
shown_at step zero replies (body ∷ before) many are = absurd (omega (arith, many))
shown_at step (suc parts) replies (body ∷ before) many are = are

-- what is kept of the manager at a stage
abbrev kept_at : Manager → Stage → Kept
kept_at m t = record (kept_by m) { waiting = waiting_at (kept_stage t) m.undo.requests.waiting; replies = replies_at (kept_stage t) m.replies }

module _ (names : Names) (m : Manager) where
  task_kept : (heeded heeds : Bool) (t : Task) (parts : ℕ) (asked : Asked) (of : machine.Task (words_of names)) (part : machine.Part (words_of names))
      → IsStage names m.steps m.undo.requests m.replies (stage.Opened heeded t parts asked) (machine.Opened heeds of part) → IsAskedAt m.steps m.undo.requests t parts asked
      → IsKeptTask names (kept_at m (stage.Opened heeded t parts asked)) (kept_task t) of × IsKeptPart names (kept_at m (stage.Opened heeded t parts asked)) (kept_task t) parts part
  task_kept heeded heeds (task.Gets step) parts asked (machine.Gets place op) part is placed =
      (is.1, record { asked = ap (option_map (own names)) placed.asks ∙ ap Some is.4; before = is.2; shown = shown_at step parts m.replies part.before is.2 is.3 })
  task_kept heeded heeds (task.Sets step) parts asked (machine.Sets place op back) part is placed =
      (is.1, record { asked = ap (option_map (own names)) placed.asks ∙ ap Some is.4; before = is.2; shown = tt })
  task_kept heeded heeds (task.Undoes step) parts asked (machine.Undoes first rest) part is placed =
      (is.1, record { asked = ap (option_map (own names)) placed.asks ∙ ap Some is.4; before = is.2; shown = tt })
  task_kept heeded heeds _ parts asked _ part is placed = absurd is.1

  stage_kept : (t : Stage) (at : machine.Stage (words_of names)) → IsStage names m.steps m.undo.requests m.replies t at → IsPlaced m.steps m.undo.requests t
      → IsKeptStage names (kept_at m t) (kept_stage t) at
  stage_kept (stage.Opened heeded t parts asked) (machine.Opened heeds of part) is placed = task_kept heeded heeds t parts asked of part is placed
  stage_kept stage.AtStart machine.AtStart is placed = tt
  stage_kept stage.AtEnd machine.AtEnd is placed = tt
  stage_kept (stage.AtHalt step why) (machine.AtHalt place cause) is placed = is
  stage_kept stage.AtUndone machine.AtUndone is placed = tt
  stage_kept (stage.AtRefused step code) (machine.AtRefused place number) is placed = is
  stage_kept _ _ is placed = absurd is

  pub journal_of : (s : ManagerState (board_plans names)) → Represents names m s → IsJournalOf names (kept_by m) s
  journal_of s shows = record {
    names = shows.named;
    is_named = shows.is_named;
    listed = shows.listed;
    plan = shows.plan;
    retries = shows.retries;
    stage = stage_kept m.stage s.machine.stage shows.stage m.placed;
    stopped = ap (stopped_at (kept_stage m.stage)) shows.stopped;
    resent = subst (IsUnsent (kept_stage m.stage)) (sym shows.resent) m.unsent;
    undo = shows.undo;
    counts = shows.counts;
  }

-- ---- what is kept of a manager that is made of a journal

pub told_stays : (at : KeptStage) (stopped : Bool) → IsToldToStop at stopped → stopped_at at stopped ≡ stopped
told_stays (kept.Open (kept_as.Get step) part) stopped told = sym told
told_stays (kept.Open (kept_as.Set step) part) stopped told = sym told
told_stays _ stopped told = refl

none_short : (replies : List ℕ) → length replies ≤ 0 → [] ≡ replies
none_short [] short = refl
none_short (byte ∷ replies) short = absurd (omega (arith, short))

pub replies_stay : (at : KeptStage) (replies : List ℕ) → length replies ≤ most_kept at → replies_at at replies ≡ replies
replies_stay (kept.Open (kept_as.Get step) (suc part)) replies short = refl
replies_stay (kept.Open (kept_as.Get step) zero) replies short = none_short replies short
replies_stay (kept.Open (kept_as.Set step) part) replies short = none_short replies short
replies_stay (kept.Open (kept_as.Undo step) part) replies short = none_short replies short
replies_stay _ replies short = none_short replies short

-- ---- the law

pub reviving_is_restarting : RevivingIsRestarting
reviving_is_restarting old new revived names s shows = revived names s (journal_of names old s shows)
