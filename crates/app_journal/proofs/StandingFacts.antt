-- What a text says beside an undo text.
use Rattle.std.specs.Prelude.{not}
use Rattle.std.proofs.Common.{◌≡◌, ℕ, List, Bool, true, false, inl, inr, subst}
use Rattle.undo_plans.specs.declared.undo_list.UndoList.{UndoList}
use Rattle.text_lines.specs.UndoText.{text_of}
use Rattle.undo_core.specs.declared.manager.Manager.{Manager}
use Rattle.undo_core.specs.Journals.{kept_by}
use Rattle.app_journal.specs.declared.standing.Standing.{Standing}
use Rattle.app_journal.specs.declared.standing.Standing.TheVariants.{Something}
use Rattle.app_journal.specs.Reviving.{IsMadeOf, IsOwnList}
use Rattle.app_journal.specs.Standing.{IsFinishedAs, IsSameAs, IsStanding, StandsBeside, is_over_at, stands_with}

-- the list of a manager whose plan is over is that of the undo text, or isn't
pub finished_as : (text undo : List ℕ) (m : Manager) (list : UndoList) (same : Bool) → IsMadeOf text m → is_over_at (kept_by m).stage ≡ true → IsOwnList m list
    → IsSameAs undo (text_of list) same → IsFinishedAs text undo same
finished_as text undo m list true made over own is = record { manager = m; made = made; over = over; list = list; own = own; same = is }
finished_as text undo m list false made over own is = inr (m, made, inr (list, own, is))

-- where the text has something, there is something unless the undo text has it
pub stands_as : (text undo : List ℕ) (finished : Bool) (standing other : Standing) → IsStanding other text → other ≡ Something → IsFinishedAs text undo finished
    → standing ≡ stands_with (not finished) → StandsBeside text undo standing
stands_as text undo true standing other is some over same = inr (subst (λ (s : Standing). IsStanding s text) some is, inl (over, same))
stands_as text undo false standing other is some over same = inr (subst (λ (s : Standing). IsStanding s text) some is, inr (over, same))
