-- One step more is kept, or isn't, behind those before it.
use Rattle.std.proofs.Common.{◌≡◌, ◌∙◌, ◌≤◌, ◌<◌, ℕ, zero, suc, ◌+◌, List, [], ◌∷◌, ◌++◌, length, map, take, Bool, true, false, Option, Some, refl, sym, ap, subst, add-one, arith, length-append}
use Rattle.std.specs.Prelude.{slice_get, ◌||◌, if◌then◌else◌}
use Rattle.std.specs.Option.{unwrap_or}
use Rattle.std.proofs.lemmas.List.{take_more, map-append}
use Rattle.std.proofs.lemmas.List.Folds.{list_any-append}
use Rattle.std.proofs.lemmas.Option.{slice_get_within, get_or_from_slice_get}
use Rattle.record_base.specs.declared.key.Key.{Key}
use Rattle.record_base.specs.declared.op.Op.{Op}
use Rattle.record_base.specs.Keys.{same_key}
use Rattle.record_kinds.specs.Limits.{key_of}
use Rattle.app_look.specs.declared.records.Came.{Came}
use Rattle.app_look.specs.declared.records.Found.{Found}
use Rattle.app_change.specs.Kept.{changes, have_record, kept_behind, kept_of, with_step}

-- one step more, behind those that are kept already
behind_more : (kept steps : List Op) (found : List Found) (place : ℕ) (op : Op) (of : Found) → slice_get steps place ≡ Some op → slice_get found place ≡ Some of
    → kept_behind kept (take (suc place) steps) (take (suc place) found) ≡ with_step (kept_behind kept (take place steps) (take place found)) op of.came
behind_more kept [] found place op of at at_found = let within = slice_get_within [] place op at in absurd (omega (arith, within))
behind_more kept (first ∷ steps) [] place op of at at_found = let within = slice_get_within [] place of at_found in absurd (omega (arith, within))
behind_more kept (first ∷ steps) (it ∷ found) zero op of at at_found =
    let same : first ≡ op = ap (λ (o : Option Op). unwrap_or o op) at in
    let same_of : it ≡ of = ap (λ (o : Option Found). unwrap_or o of) at_found in
    λ i. with_step kept (same i) ((same_of i).came)
behind_more kept (first ∷ steps) (it ∷ found) (suc place) op of at at_found = behind_more (with_step kept first it.came) steps found place op of at at_found

kept_more : (steps : List Op) (found : List Found) (place : ℕ) (op : Op) (of : Found) → slice_get steps place ≡ Some op → slice_get found place ≡ Some of
    → kept_of (take (place + 1) steps) (take (place + 1) found) ≡ with_step (kept_of (take place steps) (take place found)) op of.came
kept_more steps found place op of at at_found =
    ap (λ (n : ℕ). kept_of (take n steps) (take n found)) (add-one place) ∙ behind_more [] steps found place op of at at_found

or_false : (a : Bool) → (a || false) ≡ a
or_false true = refl
or_false false = refl

-- with one step more, one of them is on a record where one before it was, or that one is
pub record_more : (steps : List Op) (op : Op) (key : Key) → have_record (steps ++ op ∷ []) key ≡ have_record steps key || same_key (key_of op) key
record_more steps op key =
    list_any-append (λ (o : Op). same_key (key_of o) key) steps (op ∷ []) ∙ ap (λ (b : Bool). have_record steps key || b) (or_false (same_key (key_of op) key))

-- the step of a place, behind those before it
grown : (steps : List Op) (place : ℕ) (op : Op) → slice_get steps place ≡ Some op → take (place + 1) steps ≡ take place steps ++ op ∷ []
grown steps place op at = rw (take_more steps place op (slice_get_within steps place op at), get_or_from_slice_get steps place op op at)

pub have_more : (steps : List Op) (place : ℕ) (op : Op) (key : Key) → slice_get steps place ≡ Some op
    → have_record (take (place + 1) steps) key ≡ have_record (take place steps) key || same_key (key_of op) key
have_more steps place op key at = ap (λ (l : List Op). have_record l key) (grown steps place op at) ∙ record_more (take place steps) op key

-- one more is kept at most
one_longer : (kept : List Op) (op : Op) (found : Came) (place : ℕ) → length kept ≤ place → length (with_step kept op found) ≤ place + 1
one_longer kept op found place few = by (have_record kept (key_of op) || changes op found) where
  by : (keeps : Bool) → length (if keeps then kept ++ op ∷ [] else kept) ≤ place + 1
  by true = let longer : length (kept ++ op ∷ []) ≡ length kept + 1 = grind (arith, length-append) in omega (arith, longer, few)
  by false = omega (arith, few)

pub op_at : (steps : List Op) (place : ℕ) → place < length steps → (op : Op) × (slice_get steps place ≡ Some op)
op_at [] place within = absurd (omega (arith, within))
op_at (op ∷ steps) zero within = (op, refl)
op_at (op ∷ steps) (suc place) within = op_at steps place (omega (arith, within))

-- the steps that are kept with one step more, which are no more than those
pub kept_next : (steps : List Op) (found : List Found) (place : ℕ) (op : Op) (of : Found) (was now : List Op) → slice_get steps place ≡ Some op
    → slice_get found place ≡ Some of → was ≡ kept_of (take place steps) (take place found) → length was ≤ place → now ≡ with_step was op of.came
    → (now ≡ kept_of (take (place + 1) steps) (take (place + 1) found)) × (length now ≤ place + 1)
kept_next steps found place op of was now at at_found before few grows = (
  grows ∙ ap (λ (kept : List Op). with_step kept op of.came) before ∙ sym (kept_more steps found place op of at at_found),
  subst (λ (kept : List Op). length kept ≤ place + 1) (sym grows) (one_longer was op of.came place few),
)

-- the record of one step more
pub keys_next : (steps : List Op) (place : ℕ) (key : Key) (was now : List Key) → place < length steps → was ≡ map key_of (take place steps)
    → ((op : Op) → slice_get steps place ≡ Some op → key ≡ key_of op) → now ≡ was ++ key ∷ [] → now ≡ map key_of (take (place + 1) steps)
keys_next steps place key was now within before is pushed =
    let here = op_at steps place within in
    let op = here.0 in
    let longer : map key_of (take (place + 1) steps) ≡ map key_of (take place steps) ++ key_of op ∷ [] =
    rw (take_more steps place op (slice_get_within steps place op here.1), get_or_from_slice_get steps place op op here.1, map-append) in
    pushed ∙ (λ i. before i ++ is op here.1 i ∷ []) ∙ sym longer
