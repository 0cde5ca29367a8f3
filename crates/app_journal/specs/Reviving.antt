-- A manager that is made again of the text of a journal.
use Rattle.std.specs.Prelude.{◌≡◌, ◌<◌, ◌⊎◌, ℕ, List, Some}
use Rattle.two_wire.specs.Retries.{most_retries}
use Rattle.undo_plans.specs.KeptManager.{Kept}
use Rattle.text_journal.specs.JournalText.{IsTextOf, IsFirstBad}
use Rattle.model_lab.specs.Meaning.{lab_names}
use Rattle.undo_core.specs.declared.manager.Manager.{Manager}
use Rattle.undo_core.specs.Journals.{IsRevived, kept_by}
use Rattle.model_lab.specs.ManagerSteps.{ManagerState, board_plans}
use Rattle.undo_plans.specs.declared.undo_list.UndoList.{UndoList}
use Rattle.undo_core.specs.Shown.{IsForOthers, IsListOf, IsRemade, Represents}
use Rattle.app_journal.specs.declared.reviving.ReviveFault.{ReviveFault}
use Rattle.app_journal.specs.declared.reviving.ReviveFault.TheVariants as fault

-- a manager of these retries is one that can be
abbrev pub HasRetries : Kept → Type 0
HasRetries kept = ¬ (most_retries < kept.retries)

-- the journal is that of a manager of the lab's names, or of any
abbrev pub IsForLab : Kept → Type 0
IsForLab kept = ¬ IsForOthers (Some kept.names) lab_names kept.retries

-- The manager is made of the text: that is the text of a journal, of a manager with the lab's names, and the manager has the same journal. It is the one that is
-- made again of any whose journal that is.
pub record IsMadeOf (text : List ℕ) (manager : Manager) : Type 0 where
  pub stands : IsTextOf text (kept_by manager)
  pub few : HasRetries (kept_by manager)
  pub own : IsForLab (kept_by manager)
  pub revived : IsRevived (kept_by manager) manager

-- the list is the manager's: what undoes the steps that were done, the numbers of its next requests, and its names
abbrev pub IsOwnList : Manager → UndoList → Type 0
IsOwnList manager list = (state : ManagerState (board_plans lab_names)) → Represents lab_names manager state → IsListOf lab_names list state

-- why none is made of a text: memory is refused, it is no journal, or it is the journal of a manager that can't be made again with the lab's names
abbrev pub IsFault : ReviveFault → (text : List ℕ) → Type 0
IsFault fault.Memory text = Unit {0}
IsFault (fault.Line line) text = IsFirstBad text line
IsFault fault.Retries text = (kept : Kept) × IsTextOf text kept × (most_retries < kept.retries)
IsFault fault.OtherNames text = (kept : Kept) × IsTextOf text kept × IsForOthers (Some kept.names) lab_names kept.retries

-- ---- laws

-- Of the text of the journal of a manager with the lab's names, only memory is a fault, unless the manager sends a request again more often than any can.
abbrev pub KeptTextsAreRead : Type 0
KeptTextsAreRead = (text : List ℕ) (manager : Manager) (why : ReviveFault) → IsTextOf text (kept_by manager) → manager.names ≡ lab_names → IsFault why text
    → (why ≡ fault.Memory) ⊎ ((why ≡ fault.Retries) × (most_retries < manager.retries))

-- and the manager that is made of it is that manager, made again
abbrev pub KeptTextsAreRemade : Type 0
KeptTextsAreRemade = (text : List ℕ) (old new : Manager) → IsTextOf text (kept_by old) → IsMadeOf text new → IsRemade old new
