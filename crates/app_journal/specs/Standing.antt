-- What a text says that there is to take back.
use Rattle.std.specs.Prelude.{◌≡◌, ◌≢◌, ◌⊎◌, ℕ, List, [], ◌∷◌, Bool, true, false}
use Rattle.record_base.specs.declared.message.Asked.{Asked}
use Rattle.undo_plans.specs.declared.undo_list.UndoList.{UndoList}
use Rattle.undo_plans.specs.declared.kept_stage.KeptTask.TheVariants.{Set, Undo}
use Rattle.undo_plans.specs.declared.kept_stage.KeptStage.{KeptStage}
use Rattle.undo_plans.specs.declared.kept_stage.KeptStage.TheVariants.{Open, Done, Halted, Undone}
use Rattle.undo_plans.specs.KeptManager.{Kept}
use Rattle.text_journal.specs.JournalText as journal
use Rattle.text_lines.specs.UndoText as undo
use Rattle.text_lines.specs.UndoText.{text_of}
use Rattle.undo_core.specs.declared.manager.Manager.{Manager}
use Rattle.undo_core.specs.Journals.{kept_by}
use Rattle.app_journal.specs.declared.reviving.ReviveFault.{ReviveFault}
use Rattle.app_journal.specs.declared.reviving.ReviveFault.TheVariants as fault
use Rattle.app_journal.specs.Reviving.{IsFault, IsMadeOf, IsOwnList}
use Rattle.app_journal.specs.declared.standing.Standing.{Standing}
use Rattle.app_journal.specs.declared.standing.Standing.TheVariants.{Nothing, Something, NoJournal}

-- there is something to take back, or nothing
abbrev pub stands_with : (something : Bool) → Standing
stands_with true = Something
stands_with false = Nothing

-- a list isn't empty
abbrev pub has_some : List Asked → Bool
has_some [] = false
has_some (first ∷ more) = true

-- Something to take back is a list that isn't empty, or an open request that carries a step out or undoes one; an open Get is nothing. Where all was taken back there is
-- nothing.
abbrev pub standing_at : KeptStage → List Asked → Standing
standing_at Undone members = Nothing
standing_at (Open (Set step) part) members = Something
standing_at (Open (Undo step) part) members = Something
standing_at _ members = stands_with (has_some members)

abbrev pub standing_of : Kept → Standing
standing_of kept = standing_at kept.stage kept.members

-- what an undo text says: its list is empty or isn't. Any other text is none.
abbrev pub IsListStanding : Standing → (text : List ℕ) → Type 0
IsListStanding standing text =
    ((list : UndoList) × undo.IsTextOf text list × (standing ≡ stands_with (has_some list.requests.members)))
    ⊎ ((line : ℕ) × undo.IsFirstBad text line × (standing ≡ NoJournal))

-- what the text of a journal says, or one that isn't that of one
abbrev pub IsStanding : Standing → (text : List ℕ) → Type 0
IsStanding standing text =
    ((kept : Kept) × journal.IsTextOf text kept × (standing ≡ standing_of kept))
    ⊎ ((line : ℕ) × journal.IsFirstBad text line × IsListStanding standing text)

-- ---- beside an undo text

-- the plan ended or halted
abbrev pub is_over_at : KeptStage → Bool
is_over_at Done = true
is_over_at (Halted step why) = true
is_over_at _ = false

-- the texts are the same, or others
abbrev pub IsSameAs : (text other : List ℕ) → (same : Bool) → Type 0
IsSameAs text other true = text ≡ other
IsSameAs text other false = text ≢ other

-- a manager is made of the journal of this text, whose plan is over, and the undo text is that of its list
pub record IsFinished (text undo : List ℕ) : Type 0 where
  pub manager : Manager
  pub made : IsMadeOf text manager
  pub over : is_over_at (kept_by manager).stage ≡ true
  pub list : UndoList
  pub own : IsOwnList manager list
  pub same : undo ≡ text_of list

-- none is made of it, or the plan of one that is isn't over, or the undo text is another than that of its list
abbrev pub IsUnfinished : (text undo : List ℕ) → Type 0
IsUnfinished text undo =
    ((why : ReviveFault) × (why ≢ fault.Memory) × IsFault why text)
    ⊎ ((manager : Manager) × IsMadeOf text manager
    × ((is_over_at (kept_by manager).stage ≡ false) ⊎ ((list : UndoList) × IsOwnList manager list × (undo ≢ text_of list))))

abbrev pub IsFinishedAs : (text undo : List ℕ) → (finished : Bool) → Type 0
IsFinishedAs text undo true = IsFinished text undo
IsFinishedAs text undo false = IsUnfinished text undo

-- What the text of a journal says, or an undo text, beside the undo text that the file of one has: there is nothing where that has the list already.
abbrev pub StandsBeside : (text undo : List ℕ) → Standing → Type 0
StandsBeside text undo standing =
    (IsStanding standing text × (standing ≢ Something))
    ⊎ (IsStanding Something text × ((IsFinishedAs text undo true × (standing ≡ Nothing)) ⊎ (IsFinishedAs text undo false × (standing ≡ Something))))
