-- What leads back from the records after some steps of a plan to those at its start.
use Rattle.std.specs.Prelude.{◌≡◌, ℕ, zero, suc, List, [], ◌∷◌, Some, slice_get}
use Rattle.model_undo.specs.Family.{Family, SetsTo}

-- the series carries out an operation on the record of the step at this place, which leads back over this step
pub record LeadsBack (family : Family) (plan : List family.words.Op) (place : ℕ) (undo : family.words.Series)
    (before after : family.Records) : Type 0 where
  pub op : family.words.Op
  pub back : family.words.Op
  pub step : slice_get plan place ≡ Some op
  pub same_key : family.words.key_of back ≡ family.words.key_of op
  pub done : SetsTo family op before after
  pub undone : SetsTo family back after before
  pub series : undo ≡ family.words.setting back

-- the series, in order, lead back over so many first steps
abbrev pub CanUndo : (family : Family) → List family.words.Op → family.Records
    → ℕ → List family.words.Series → family.Records → Type 0
CanUndo family plan start zero [] records = records ≡ start
CanUndo family plan start zero (first ∷ rest) records = ⊥
CanUndo family plan start (suc steps) [] records = ⊥
CanUndo family plan start (suc steps) (first ∷ rest) records =
    (before : family.Records) × CanUndo family plan start steps rest before × LeadsBack family plan steps first before records
