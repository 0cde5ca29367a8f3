-- What is foreseen of each step of a plan, by what was found of its record before the first of them.
use Rattle.std.specs.Prelude.{◌≡◌, ℕ, List, Some, length, slice_get}
use Rattle.record_base.specs.declared.op.Op.{Op}
use Rattle.app_look.specs.declared.records.Came.{Came}
use Rattle.app_look.specs.declared.records.Came.TheVariants as came
use Rattle.app_look.specs.declared.records.Found.{Found}
use Rattle.app_change.specs.declared.outlooks.Outlook.{Outlook}
use Rattle.app_change.specs.declared.outlooks.Outlook.TheVariants as outlook
use Rattle.app_change.specs.Foreseeing.{IsForeseen}

-- a step whose Get was refused is told with the code, and any other is foreseen
abbrev pub IsOutlook : (steps : List Op) (place : ℕ) → Op → Came → Outlook → Type 0
IsOutlook steps place op (came.Shown shown) (outlook.Foreseen foreseen) = IsForeseen steps place op shown.items foreseen
IsOutlook steps place op (came.Refused code) told = told ≡ outlook.Refused code
IsOutlook steps place op _ told = ⊥

-- each is of the step of its place, and of what was found at that place
abbrev pub EachTold : (steps : List Op) → (found : List Found) → (outlooks : List Outlook) → Type 0
EachTold steps found outlooks =
    (place : ℕ) (op : Op) (of : Found) (told : Outlook) → slice_get steps place ≡ Some op → slice_get found place ≡ Some of
    → slice_get outlooks place ≡ Some told → IsOutlook steps place op of.came told

-- one for each step
pub record AreOutlooks (steps : List Op) (found : List Found) (outlooks : List Outlook) : Type 0 where
  pub each_one : length outlooks ≡ length steps
  pub told : EachTold steps found outlooks
