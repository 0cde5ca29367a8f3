-- What is said of records: the steps that set them to what they are, and the remarks.
use Rattle.std.specs.Prelude.{◌≡◌, ◌⊎◌, ℕ, List, [], ◌∷◌, ◌++◌, Ok, Err}
use Rattle.record_base.specs.declared.key.Key.{Key}
use Rattle.record_base.specs.declared.op.Op.{Op}
use Rattle.shown_records.specs.declared.as_it_is.Unsaid.{Unsaid}
use Rattle.shown_records.specs.AsItIs.{as_it_is}
use Rattle.shown_records.specs.KeptText.{IsPlanText}
use Rattle.app_show.specs.declared.backup.Backup.{Backup}
use Rattle.app_show.specs.declared.backup.Why.{Why}
use Rattle.app_show.specs.declared.backup.Why.TheVariants.{Unsaid as NoOp, Unwritten}

-- the steps of plans, one plan behind another
abbrev pub joined : List (List Op) → List Op
joined [] = []
joined (steps ∷ later) = steps ++ joined later

abbrev pub steps_of : Backup → List Op
steps_of backup = joined backup.full.items ++ backup.last

-- it says nothing
abbrev pub has_none : Backup → Type 0
has_none backup = (steps_of backup ≡ []) × (backup.remarks.items ≡ [])

-- both say the same
pub record Says (old new : Backup) : Type 0 where
  pub same_steps : steps_of new ≡ steps_of old
  pub same_remarks : new.remarks.items ≡ old.remarks.items

-- one step more
pub record AddsStep (op : Op) (old new : Backup) : Type 0 where
  pub steps : steps_of new ≡ steps_of old ++ op ∷ []
  pub same_remarks : new.remarks.items ≡ old.remarks.items

-- one remark more
pub record AddsRemark (key : Key) (why : Why) (old new : Backup) : Type 0 where
  pub same_steps : steps_of new ≡ steps_of old
  pub remarks : new.remarks.items ≡ old.remarks.items ++ record { key = key; why = why } ∷ []

-- the operation that sets the record to what its Get shows is a step more, which the text of some plan says; or there is a remark
abbrev pub Takes : Key → (shown : List ℕ) → (old new : Backup) → Type 0
Takes key shown old new =
    ((op : Op) × (as_it_is key shown ≡ Ok op) × ((text : List ℕ) × IsPlanText text (op ∷ [])) × AddsStep op old new)
    ⊎ (((why : Unsaid) × (as_it_is key shown ≡ Err why) × AddsRemark key (NoOp why) old new)
    ⊎ ((op : Op) × (as_it_is key shown ≡ Ok op) × AddsRemark key Unwritten old new))
