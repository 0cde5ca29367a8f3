-- What is so of a journal that is kept.
use Rattle.std.proofs.Common.{◌≡◌, ◌∙◌, ℕ, List, Bool, true, false, None, Ok, Err, inl, inr, refl, string_bytes, sym, subst}
use Rattle.std.specs.Prelude.{not, IfOk, IsSome, Result}
use Rattle.record_base.specs.declared.op.Op.{Op}
use Rattle.undo_plans.specs.Requests.{RequestList}
use Rattle.undo_plans.specs.declared.names.Names.{Names}
use Rattle.undo_plans.specs.declared.kept_stage.KeptStage.TheVariants.{Open}
use Rattle.undo_plans.specs.declared.kept_stage.KeptTask.TheVariants.{Get, Set, Undo}
use Rattle.undo_plans.specs.KeptManager.{waiting_at}
use Rattle.model_undo.specs.Machine as machine
use Rattle.undo_core.specs.declared.manager.Manager.{Manager}
use Rattle.undo_core.specs.declared.stage.Task.TheVariants.{Gets, Sets, Undoes}
use Rattle.undo_core.specs.declared.stage.Stage.{Stage}
use Rattle.undo_core.specs.declared.stage.Stage.TheVariants.{AtStart, Opened, AtEnd, AtHalt, AtUndone, AtRefused}
use Rattle.undo_core.specs.Journals.{kept_by}
use Rattle.undo_core.specs.Placed.{IsPlaced}
use Rattle.undo_core.specs.Shown.{IsStage, words_of}
use Rattle.undo_core.specs.Stages.{kept_stage}
use Rattle.app_journal.specs.declared.keeper.JournalTexts.{JournalTexts}
use Rattle.app_journal.specs.declared.undo_files.UndoFiles.{UndoFiles}
use Rattle.app_journal.specs.Beside.{Writings, Renamings}
use Rattle.app_journal.specs.Keeping.{AllowedIsKept, ClosedIsSilent, OpenSetIsTakenBack, HasJournal, IsJournalText, KeepsJournal, PutsJournal, PutsWhereOther, has_open, may_unkept}

-- ---- where the frames of an open request may go out

module _ {Files : Type 0} (takes : Writings Files) (renames : Renamings Files) (beside : UndoFiles) (manager : Manager) (had has : List ℕ) (old new : Files) where
  kept_has : (text : List ℕ) → IsJournalText text manager → PutsWhereOther takes renames beside text (Ok tt) had has old new
      → HasJournal takes renames beside manager had has old new
  kept_has text is (inl it) = record {
    is = subst (λ (t : List ℕ). IsJournalText t manager) (sym (it.stays ∙ it.is)) is;
    from = inl (sym it.stays, it.same);
  }
  kept_has text is (inr (inl it)) = record {
    is = subst (λ (t : List ℕ). IsJournalText t manager) (sym it.becomes) is;
    from = inr (subst (λ (t : List ℕ). PutsJournal takes renames beside t old (Ok tt) new) (sym it.becomes) it.put);
  }
  kept_has text is (inr (inr it)) = let wrong : Ok tt ≡ Err it.why = it.is_fault in cc wrong

  unkept_waits : true ≡ may_unkept manager → has_open (kept_by manager).stage ≡ true → ⊥
  unkept_waits may is = let wrong : true ≡ not true = subst (λ (b : Bool). true ≡ not b) is may in cc wrong

  pub allowed_has : KeepsJournal takes renames beside manager true had has old new → has_open (kept_by manager).stage ≡ true
      → HasJournal takes renames beside manager had has old new
  allowed_has (inl it) is = kept_has it.text it.is it.puts
  allowed_has (inr (inl it)) is = absurd (unkept_waits it.may is)
  allowed_has (inr (inr it)) is = absurd (unkept_waits it.may is)

pub allowed_is_kept : {Files : Type 0} (takes : Writings Files) (renames : Renamings Files) → AllowedIsKept takes renames
allowed_is_kept takes renames beside manager had has old new kept is = allowed_has takes renames beside manager had has old new kept is

-- ---- what waits while a Set is open

set_waits : (plan : List Op) (requests : RequestList) (t : Stage) (step part : ℕ) → IsPlaced plan requests t → kept_stage t ≡ Open (Set step) part
    → IsSome (waiting_at (kept_stage t) requests.waiting)
set_waits plan requests (Opened heeded (Sets place) parts asked) step part placed is = placed.waits
set_waits plan requests (Opened heeded (Gets place) parts asked) step part placed is = let wrong : Open (Get place) parts ≡ Open (Set step) part = is in cc wrong
set_waits plan requests (Opened heeded (Undoes place) parts asked) step part placed is = let wrong : Open (Undo place) parts ≡ Open (Set step) part = is in cc wrong
set_waits plan requests AtStart step part placed is = cc is
set_waits plan requests AtEnd step part placed is = cc is
set_waits plan requests (AtHalt place why) step part placed is = cc is
set_waits plan requests AtUndone step part placed is = cc is
set_waits plan requests (AtRefused place code) step part placed is = cc is

pub open_set_is_taken_back : OpenSetIsTakenBack
open_set_is_taken_back manager step part is = set_waits manager.steps manager.undo.requests manager.stage step part manager.placed is

-- ---- what is sent where no request is open

closed_at : (names : Names) (plan : List Op) (requests : RequestList) (replies : List ℕ) (t : Stage) (at : machine.Stage (words_of names))
    → IsStage names plan requests replies t at → has_open (kept_stage t) ≡ false → machine.open_bus_at (words_of names) at ≡ None
closed_at names plan requests replies (Opened heeded of parts asked) at is closed = let wrong : true ≡ false = closed in cc wrong
closed_at names plan requests replies AtStart machine.AtStart is closed = refl
closed_at names plan requests replies AtEnd machine.AtEnd is closed = refl
closed_at names plan requests replies (AtHalt step why) (machine.AtHalt place cause) is closed = refl
closed_at names plan requests replies AtUndone machine.AtUndone is closed = refl
closed_at names plan requests replies (AtRefused step code) (machine.AtRefused place number) is closed = refl
closed_at names plan requests replies _ _ is closed = absurd is

pub closed_is_silent : ClosedIsSilent
closed_is_silent manager names state shows closed = closed_at names manager.steps manager.undo.requests manager.replies manager.stage state.machine.stage shows.stage closed

-- ---- the text that is put first

pub texts_of : {E : Type 0} (manager : Manager) (text : List ℕ) (came : Result JournalTexts E) → IsJournalText text manager → IfOk came (λ texts. string_bytes texts.last ≡ text)
    → IfOk came (λ texts. IsJournalText (string_bytes texts.last) manager)
texts_of manager text (Ok texts) is same = subst (λ (t : List ℕ). IsJournalText t manager) (sym same) is
texts_of manager text (Err why) is same = tt
