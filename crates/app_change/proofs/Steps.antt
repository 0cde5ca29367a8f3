-- One step more leaves what it leaves of what those before it left.
use Rattle.std.proofs.Common.{◌≡◌, ◌∙◌, ℕ, zero, suc, ◌+◌, ◌<◌, List, [], ◌∷◌, ◌++◌, length, take, Some, Bool, true, false, refl, sym, ap, add-one, arith}
use Rattle.std.specs.Prelude.{slice_get, if◌then◌else◌}
use Rattle.record_base.specs.declared.key.Key.{Key}
use Rattle.record_base.specs.declared.op.Op.{Op}
use Rattle.shown_records.specs.After.{after_of}
use Rattle.shown_records.specs.Foresight.{after_all}
use Rattle.app_change.specs.Foreseeing.{can_go, carried_out, left_behind, left_by}

-- the first step, and those behind it
pub left_first : (key : Key) (op : Op) (later : List Op) (shown : List ℕ) → left_behind key (op ∷ later) shown ≡ left_behind key later (left_by key op shown)
left_first key op later shown = by (can_go key op shown) where
  by : (goes : Bool) → after_all (if goes then op ∷ carried_out key later (after_of op shown) else carried_out key later shown) shown
      ≡ left_behind key later (if goes then after_of op shown else shown)
  by true = refl
  by false = refl

-- the steps before, and the last
pub left_last : (key : Key) (steps : List Op) (op : Op) (shown : List ℕ) → left_behind key (steps ++ op ∷ []) shown ≡ left_by key op (left_behind key steps shown)
left_last key [] op shown = left_first key op [] shown
left_last key (first ∷ steps) op shown =
    left_first key first (steps ++ op ∷ []) shown ∙ left_last key steps op (left_by key first shown)
    ∙ sym (ap (left_by key op) (left_first key first steps shown))

-- the step of a place, behind those before it
pub one_at : (steps : List Op) (place : ℕ) → place < length steps → (op : Op) × (slice_get steps place ≡ Some op) × (take (suc place) steps ≡ take place steps ++ op ∷ [])
one_at [] place within = absurd (omega (arith, within))
one_at (op ∷ steps) zero within = (op, refl, refl)
one_at (op ∷ steps) (suc place) within =
    let more = one_at steps place (omega (arith, within)) in
    (more.0, more.1, ap (λ (l : List Op). op ∷ l) more.2)

-- so what it leaves is what one step more leaves
pub left_next : (key : Key) (steps : List Op) (place : ℕ) (shown left next : List ℕ) → place < length steps → left ≡ left_behind key (take place steps) shown
    → ((op : Op) → slice_get steps place ≡ Some op → next ≡ left_by key op left) → next ≡ left_behind key (take (place + 1) steps) shown
left_next key steps place shown left next within was leaves =
    let here = one_at steps place within in
    let grown : take (place + 1) steps ≡ take place steps ++ here.0 ∷ [] = ap (λ (n : ℕ). take n steps) (add-one place) ∙ here.2 in
    leaves here.0 here.1 ∙ ap (left_by key here.0) was ∙ sym (left_last key (take place steps) here.0 shown)
    ∙ sym (ap (λ (l : List Op). left_behind key l shown) grown)
