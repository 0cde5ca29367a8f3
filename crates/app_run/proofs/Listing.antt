-- What comes of the undo of a list.
use Rattle.std.proofs.Common.{◌≡◌, ◌↔◌, ◌⊎◌, ℕ, List, false, Result, Ok, Err, inl, inr, refl, subst, sym}
use Rattle.text_lines.specs.declared.undo_text.UndoFault.{UndoFault}
use Rattle.text_lines.specs.declared.undo_text.UndoFault.TheVariants as fault
use Rattle.text_lines.specs.UndoText.{IsFirstBad}
use Rattle.undo_plans.specs.declared.undo_list.UndoList.{UndoList}
use Rattle.model_lab.specs.Meaning.{lab_names}
use Rattle.undo_core.specs.Shown.{AreOthers}
use Rattle.app_journal.specs.declared.standing.Standing.{Standing}
use Rattle.app_journal.specs.declared.standing.Standing.TheVariants.{Nothing, Something, NoJournal}
use Rattle.app_journal.specs.Claiming.{may_go}
use Rattle.app_run.specs.declared.driven.RemakeFault.{RemakeFault}
use Rattle.app_run.specs.declared.driven.RemakeFault.TheVariants.{OtherNames}
use Rattle.app_run.specs.declared.undoing.Resumed.{Resumed}
use Rattle.app_run.specs.Undo.{IsFault}

-- a manager goes on from the list, so it has no other names
pub no_others : (list : UndoList) (came : Result Resumed RemakeFault) (resumed : Resumed) → came ≡ Ok resumed → ((came ≡ Err OtherNames) ↔ AreOthers lab_names list.names)
    → ¬ AreOthers lab_names list.names
no_others list (Ok made) resumed is others o = cc (others.1 o)
no_others list (Err why) resumed is others o = cc is

-- what isn't nothing may not be written over
pub may_not_go : (standing : Standing) → (standing ≡ Nothing → ⊥) → may_go standing ≡ false
may_not_go Nothing not = absurd (not refl)
may_not_go Something not = refl
may_not_go NoJournal not = refl

-- a text isn't read as an undo text
pub fault_of : (why : UndoFault) (text : List ℕ) → (why ≡ fault.Memory) ⊎ ((n : ℕ) × (why ≡ fault.Line n) × IsFirstBad text n) → IsFault why text
fault_of fault.Memory text told = tt
fault_of (fault.Line line) text (inl is) = cc is
fault_of (fault.Line line) text (inr (n, is, bad)) = let same : line ≡ n = cc in subst (IsFirstBad text) (sym same) bad
