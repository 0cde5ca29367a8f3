-- Texts that are read as the steps that they were written of.
use Rattle.std.specs.Prelude.{◌≡◌, ℕ, List, ◌++◌, length, slice_get, Some, Ok}
use Rattle.record_base.specs.declared.op.Op.{Op}
use Rattle.record_kinds.specs.Limits.{key_of}
use Rattle.record_kinds.specs.Series.{set_whole}
use Rattle.undo_plans.specs.declared.plan.Plan.{Plan}
use Rattle.plan_file.specs.PlanHolds.{ReadsPlan}

-- both operations are on the same record, and the same request carries them out
pub record IsAlike (first second : Op) : Type 0 where
  pub same_record : key_of first ≡ key_of second
  pub same_request : set_whole first ≡ set_whole second

-- so are all, each with the one at its place
pub record AreAlike (first second : List Op) : Type 0 where
  pub same_length : length first ≡ length second
  pub alike : (place : ℕ) (one other : Op) → slice_get first place ≡ Some one → slice_get second place ≡ Some other → IsAlike one other

-- the text is that of a plan, and its steps are these
pub record IsPlanText (text : List ℕ) (steps : List Op) : Type 0 where
  pub plan : Plan
  pub is_read : ReadsPlan text (Ok plan)
  pub steps_alike : AreAlike plan.steps steps

-- the text begins with one and ends with the other
abbrev pub IsBetween : (front behind text : List ℕ) → Type 0
IsBetween front behind text = (written : List ℕ) × (text ≡ front ++ written ++ behind)
