-- Why no manager takes back what a text says.
use Rattle.std.proofs.Common.{◌≡◌, ◌⊎◌, ℕ, List, inl, inr, subst, sym}
use Rattle.text_lines.specs.declared.undo_text.UndoFault.{UndoFault}
use Rattle.text_lines.specs.declared.undo_text.UndoFault.TheVariants as unread
use Rattle.text_lines.specs.UndoText.{IsFirstBad, IsTextOf}
use Rattle.undo_plans.specs.declared.undo_list.UndoList.{UndoList}
use Rattle.model_lab.specs.Meaning.{lab_names}
use Rattle.undo_core.specs.Shown.{AreOthers}
use Rattle.app_journal.specs.declared.reviving.ReviveFault.{ReviveFault}
use Rattle.app_journal.specs.declared.reviving.ReviveFault.TheVariants as fault
use Rattle.app_journal.specs.Reviving.{IsFault}
use Rattle.app_run.specs.JournalUndo.{IsJournal}
use Rattle.app_revert.specs.declared.reading.Unfit.{Unfit}
use Rattle.app_revert.specs.declared.reading.Unfit.TheVariants as unfit
use Rattle.app_revert.specs.Revert.{IsUnfit, unfit_journal, unfit_undo}

-- a journal, of which no manager is made
pub unfit_as_journal : (why : ReviveFault) (text : List ℕ) → IsFault why text → IsJournal text → IsUnfit (unfit_journal why) text
unfit_as_journal fault.Memory text bad is = tt
unfit_as_journal (fault.Line line) text bad is = inl (is, bad)
unfit_as_journal fault.Retries text bad is = (is, bad)
unfit_as_journal fault.OtherNames text bad is = inl (is, bad)

-- a text that isn't read as an undo text
pub unfit_as_undo : (why : UndoFault) (text : List ℕ) → (why ≡ unread.Memory) ⊎ ((n : ℕ) × (why ≡ unread.Line n) × IsFirstBad text n) → ¬ IsJournal text
    → IsUnfit (unfit_undo why) text
unfit_as_undo unread.Memory text told is = tt
unfit_as_undo (unread.Line line) text (inl none) is = cc none
unfit_as_undo (unread.Line line) text (inr (n, same, bad)) is = let this : line ≡ n = cc in inr (is, subst (IsFirstBad text) (sym this) bad)

-- an undo text from whose list no manager goes on
pub unfit_as_list : (why : Unfit) (text : List ℕ) (list : UndoList) → IsTextOf text list
    → (why ≡ unfit.Memory) ⊎ ((why ≡ unfit.OtherNames) × AreOthers lab_names list.names) → ¬ IsJournal text → IsUnfit why text
unfit_as_list why text list stands (inl memory) is = subst (λ (w : Unfit). IsUnfit w text) (sym memory) tt
unfit_as_list why text list stands (inr (names, others)) is =
    subst (λ (w : Unfit). IsUnfit w text) (sym names) (inr (is, list, stands, others))
