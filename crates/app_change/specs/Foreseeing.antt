-- What the steps of a plan make of a record, by what its Get showed before the first of them.
use Rattle.std.specs.Prelude.{◌≡◌, ℕ, List, [], ◌∷◌, take, Bool, ◌&&◌, if◌then◌else◌}
use Rattle.std.specs.Option.{is_some}
use Rattle.record_base.specs.declared.key.Key.{Key}
use Rattle.record_base.specs.declared.op.Op.{Op}
use Rattle.record_base.specs.Keys.{same_key}
use Rattle.record_kinds.specs.Limits.{inverse, key_of}
use Rattle.shown_records.specs.After.{after_of}
use Rattle.shown_records.specs.Foresight.{after_all}
use Rattle.shown_records.specs.Meaning.{Means}
use Rattle.app_change.specs.declared.foreseeing.Foreseen.{Foreseen}

-- the operation is on this record, and can be taken back where the Get shows this
abbrev pub can_go : Key → Op → (shown : List ℕ) → Bool
can_go key op shown = same_key (key_of op) key && is_some (inverse op shown)

-- what the Get shows behind a step
abbrev pub left_by : Key → Op → (shown : List ℕ) → List ℕ
left_by key op shown = if can_go key op shown then after_of op shown else shown

-- those of the steps that are carried out on the record: each that can be taken back, where the Get shows what those before it leave
abbrev pub carried_out : Key → List Op → (shown : List ℕ) → List Op
carried_out key [] shown = []
carried_out key (op ∷ later) shown = if can_go key op shown then op ∷ carried_out key later (after_of op shown) else carried_out key later shown

-- what the Get shows behind all of these
abbrev pub left_behind : Key → List Op → (shown : List ℕ) → List ℕ
left_behind key steps shown = after_all (carried_out key steps shown) shown

-- what the Get shows before the step of this place, behind the steps before it, and what the step makes of that
pub record IsForeseen (steps : List Op) (place : ℕ) (op : Op) (shown : List ℕ) (foreseen : Foreseen) : Type 0 where
  pub before : foreseen.before.items ≡ left_behind (key_of op) (take place steps) shown
  pub means : Means op foreseen.before.items foreseen.meaning
