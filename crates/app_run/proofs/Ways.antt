-- What a line tells of a manager on its way.
use Rattle.std.specs.Prelude.{Option}
use Rattle.std.proofs.Common.{◌≡◌, ◌∙◌, ℕ, List, [], ◌∷◌, Bool, false, inl, inr, map, sym, subst, ap}
use Rattle.undo_plans.specs.declared.undo_list.UndoList.{UndoList}
use Rattle.plan_file.specs.declared.kind.Kind.{Kind}
use Rattle.plan_file.specs.Kinds.{kind_of}
use Rattle.undo_plans.specs.KeptManager.{Kept}
use Rattle.model_undo.specs.declared.call.Call.{Call}
use Rattle.model_undo.specs.declared.call.Call.TheVariants.{Again, Undo}
use Rattle.undo_core.specs.declared.manager.Manager.{Manager}
use Rattle.bmc_ports.specs.Observing.{Look, SeesAll}
use Rattle.model_lab.specs.Meaning.{lab_names}
use Rattle.undo_core.specs.Journals.{kept_by}
use Rattle.undo_core.specs.Shown.{AreOthers}
use Rattle.app_base.specs.Files.{Readings}
use Rattle.app_run.specs.declared.progress.Progress.{Progress}
use Rattle.app_run.specs.declared.undoing.Resumed.{Resumed}
use Rattle.app_run.specs.Driven.{DrivenState, resumed_from}
use Rattle.app_run.specs.Progress.{EndsLine}
use Rattle.app_run.specs.Told.{LooksOnRecall, LooksOnRevert, MayLookOn, MayTellResumed, MayTellRevert, TellsFile, TellsJournal, TellsLooks, TellsOfNames, TellsRevert, TellsSettling, TellsUndoFile, TellsUndoText, TellsWay, steps_of}
use Rattle.app_run.specs.Undo.{IsResumed}

-- what a part of a watch sees at each look, where it is fixed what it goes by
pub seen_as : {Watch Fixed View : Type 0} (sees : Watch → Manager → Bool → Watch → Type 0) (fixed : Watch → Fixed) (view : Watch → View) (so : Fixed → View → Manager → View → Type 0)
    → ((old : Watch) (m : Manager) (allowed : Bool) (new : Watch) → sees old m allowed new → so (fixed old) (view old) m (view new) × (fixed new ≡ fixed old))
    → (looks : List Look) (old new : Watch) → SeesAll sees looks old new → SeesAll (λ at m allowed. so (fixed old) at m) looks (view old) (view new)
seen_as sees fixed view so each [] old new same = ap view same
seen_as sees fixed view so each (look ∷ later) old new (mid, saw, rest) =
    let it = each old look.manager look.allowed mid saw in (
      view mid,
      it.0,
      subst (λ by. SeesAll (λ at m allowed. so by at m) later (view mid) (view new)) it.1 (seen_as sees fixed view so each later mid new rest),
    )

-- what holds of one holds of the other, which is the same
pub carried : {A : Type 0} (holds : A → Type 0) (a b : A) → holds a → a ≡ b → holds b
carried holds a b it same = subst holds same it

-- ---- a line that isn't written

module _ {P : Type 0} (out : P → Option (List ℕ)) where
  pub untold_looks : (kinds : List Kind) (steps : ℕ) (looks : List Look) (old new : Progress P) → old.on ≡ false → TellsLooks out kinds steps looks old new → new ≡ old
  untold_looks kinds steps [] old new off same = same
  untold_looks kinds steps (look ∷ later) old new off (mid, (now, is, inl same), rest) =
      untold_looks kinds steps later mid new (ap (λ (p : Progress P). p.on) same ∙ off) rest ∙ same
  untold_looks kinds steps (look ∷ later) old new off (mid, (now, is, inr (on, lined, other, told)), rest) = cc (sym on ∙ off)

  pub untold_end : (old new : Progress P) → old.on ≡ false → EndsLine out old new → new ≡ old
  untold_end old new off (inl (same, why)) = same
  untold_end old new off (inr (on, said, ends)) = cc (sym on ∙ off)

  untold_settling : (kinds : List Kind) (steps : ℕ) (old new : Progress P) → old.on ≡ false → TellsSettling out kinds steps old new → new ≡ old
  untold_settling kinds steps old new off (inl same) = same
  untold_settling kinds steps old new off (inr (looks, is, tells)) = untold_looks kinds steps looks old new off tells

  untold_way : (kinds : List Kind) (steps : ℕ) (before : DrivenState) (old new : Progress P) → old.on ≡ false → TellsWay out kinds steps before old new → new ≡ old
  untold_way kinds steps before old new off (mid, (m, at, way, settling), ends) =
      let first = untold_looks kinds steps way.looks old at off way.tells in
      let same = untold_settling kinds steps at mid (ap (λ (p : Progress P). p.on) first ∙ off) settling ∙ first in
      untold_end mid new (ap (λ (p : Progress P). p.on) same ∙ off) ends ∙ same

  -- a run tells nothing
  pub untold_file : (gives : Readings) (named : List ℕ) (old new : Progress P) → TellsFile out gives named old new → old.on ≡ false → new ≡ old
  untold_file gives named old new (inl same) off = same
  untold_file gives named old new (inr (text, given, inl same)) off = same
  untold_file gives named old new (inr (text, given, inr (plan, reads, inl same))) off = same
  untold_file gives named old new (inr (text, given, inr (plan, reads, inr way))) off = untold_way _ _ _ old new off way

  -- what stays the same is written no more, and isn't ended
  still_off : (old mid : Progress P) → old.on ≡ false → mid ≡ old → mid.on ≡ false
  still_off old mid off same = ap (λ (p : Progress P). p.on) same ∙ off

  untold_recall : (kinds : List Kind) (steps : ℕ) (call : Call) (manager reached : Manager) (old new : Progress P) → old.on ≡ false
      → LooksOnRecall out kinds steps call manager reached old new → new ≡ old
  untold_recall kinds steps call manager reached old new off looked = untold_looks kinds steps looked.looks old new off looked.tells

  may_untold : (kinds : List Kind) (steps : ℕ) (call : Call) (manager : Manager) (old new : Progress P) → old.on ≡ false → MayLookOn out kinds steps call manager old new → new ≡ old
  may_untold kinds steps call manager old new off (inl same) = same
  may_untold kinds steps call manager old new off (inr (reached, looked)) = untold_recall kinds steps call manager reached old new off looked

  untold_revert : (kinds : List Kind) (steps : ℕ) (manager : Manager) (old new : Progress P) → old.on ≡ false → LooksOnRevert out kinds steps manager old new → new ≡ old
  untold_revert kinds steps manager old new off (inl same) = same
  untold_revert kinds steps manager old new off (inr (settled, mid, first, later)) =
      let same = untold_recall kinds steps Again manager settled old mid off first in
      may_untold kinds steps Undo settled mid new (still_off old mid off same) later ∙ same

  untold_ended : (old mid new : Progress P) → old.on ≡ false → mid ≡ old → EndsLine out mid new → new ≡ old
  untold_ended old mid new off same ends = untold_end mid new (still_off old mid off same) ends ∙ same

  untold_made : (manager : Manager) (old new : Progress P) → old.on ≡ false → MayTellRevert out manager old new → new ≡ old
  untold_made manager old new off (inl same) = same
  untold_made manager old new off (inr (mid, looked, ends)) = untold_ended old mid new off (untold_revert _ _ manager old mid off looked) ends

  untold_list : (list : UndoList) (old new : Progress P) → old.on ≡ false → TellsOfNames out list old new → new ≡ old
  untold_list list old new off (inl same) = same
  untold_list list old new off (inr (own, (mid, inl same, ends))) = untold_ended old mid new off same ends
  untold_list list old new off (inr (own, (mid, inr undo, ends))) = untold_ended old mid new off (untold_looks [] _ undo.looks old mid off undo.tells) ends

  -- nor does an undo
  pub untold_undo_file : (gives : Readings) (named : List ℕ) (old new : Progress P) → TellsUndoFile out gives named old new → old.on ≡ false → new ≡ old
  untold_undo_file gives named old new (inl same) off = same
  untold_undo_file gives named old new (inr (text, given, inl same)) off = same
  untold_undo_file gives named old new (inr (text, given, inr (inl (list, reads, told)))) off = untold_list list old new off told
  untold_undo_file gives named old new (inr (text, given, inr (inr (manager, made, told)))) off = untold_made manager old new off told

  -- ---- an undo of a list

  -- what is told of a manager that goes on from a list is told of the list
  pub told_of_names : (list : UndoList) (greet : Bool) (resumed : Resumed) (old new : Progress P) → ¬ AreOthers lab_names list.names → IsResumed list greet resumed
      → MayTellResumed out [] resumed.steps resumed.manager old new → TellsOfNames out list old new
  told_of_names list greet resumed old new own is (inl same) = inl same
  told_of_names list greet resumed old new own is (inr (mid, inl same, ends)) = inr (own, (mid, inl same, ends))
  told_of_names list greet resumed old new own is (inr (mid, inr (reached, looked), ends)) =
      inr (
        own,
        (
          mid,
          inr (record {
            last = reached;
            end = looked.end;
            counts = looked.counts;
            looks = looked.looks;
            way = looked.way (resumed_from list) is.shown;
            tells = subst (λ (n : ℕ). TellsLooks out [] n looked.looks old mid) is.steps looked.tells;
          }),
          ends,
        ),
      )

  -- what one of a journal tells is told of its text
  pub told_of_journal : (text : List ℕ) (old new : Progress P) → TellsJournal out text old new → TellsUndoText out text old new
  told_of_journal text old new (inl same) = inl same
  told_of_journal text old new (inr made) = inr (inr made)

  -- what is told by the steps and the kinds of a journal is told of the manager whose journal it is
  pub told_of_kept : (manager : Manager) (kept : Kept) (kinds : List Kind) (steps : ℕ) (old new : Progress P) → kept ≡ kept_by manager → kinds ≡ map kind_of kept.plan
      → steps ≡ steps_of kept → TellsRevert out kinds steps manager old new → MayTellRevert out manager old new
  told_of_kept manager kept kinds steps old new is are count told =
      inr (subst (λ (k : Kept). TellsRevert out (map kind_of k.plan) (steps_of k) manager old new) is
      (subst (λ (n : ℕ). TellsRevert out (map kind_of kept.plan) n manager old new) count
      (subst (λ (ks : List Kind). TellsRevert out ks steps manager old new) are told)))
