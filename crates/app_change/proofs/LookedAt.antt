-- The records of a plan's steps, and what was found of them.
use Rattle.std.specs.Prelude.{slice_get}
use Rattle.std.proofs.Common.{◌≡◌, ◌∙◌, ◌+◌, ◌<◌, ◌++◌, ℕ, suc, List, [], ◌∷◌, length, take, Some, refl, sym, ap, add-one}
use Rattle.std.proofs.lemmas.List.{length-map, map-append}
use Rattle.record_base.specs.declared.key.Key.{Key}
use Rattle.record_base.specs.declared.op.Op.{Op}
use Rattle.record_kinds.specs.Limits.{key_of}
use Rattle.app_look.specs.declared.records.Found.{Found}
use Rattle.app_look.specs.declared.session.Session.{Session}
use Rattle.app_look.specs.declared.session.Way.{Way}
use Rattle.app_look.specs.Findings.{FindsEach}
use Rattle.app_look.specs.Reading.{FindsAndNames}
use Rattle.app_change.specs.Preview.{keys_of}
use Rattle.app_change.proofs.Steps.{one_at}

-- the record of one step more
pub keys_more : (steps : List Op) (place : ℕ) (keys now : List Key) (key : Key) → place < length steps → keys ≡ keys_of (take place steps)
    → ((op : Op) → slice_get steps place ≡ Some op → key ≡ key_of op) → now ≡ keys ++ key ∷ [] → now ≡ keys_of (take (place + 1) steps)
keys_more steps place keys now key within so_far is grown =
    let here = one_at steps place within in
    let more : take (place + 1) steps ≡ take place steps ++ here.0 ∷ [] = ap (λ (n : ℕ). take n steps) (add-one place) ∙ here.2 in
    grown ∙ ap (λ (k : Key). keys ++ k ∷ []) (is here.0 here.1) ∙ ap (λ (ks : List Key). ks ++ key_of here.0 ∷ []) so_far
    ∙ sym (map-append key_of (take place steps) (here.0 ∷ [])) ∙ sym (ap (λ (ops : List Op). keys_of ops) more)

-- of each record that was looked at something was found
found_each : (keys : List Key) (found : List Found) (old new : Session) → FindsEach keys found old new → length found ≡ length keys
found_each [] [] old new same = refl
found_each (key ∷ keys) (one ∷ found) old new (mid, looked, rest) = ap suc (found_each keys found mid new rest)
found_each [] (one ∷ found) old new none = absurd none
found_each (key ∷ keys) [] old new none = absurd none

-- so it is of each step
pub one_for_each : (way : Way) (steps : List Op) (keys : List Key) (found : List Found) → keys ≡ keys_of steps → FindsAndNames way keys found → length found ≡ length steps
one_for_each way steps keys found are (names, (left, over, last)) =
    found_each keys found over.session left over.finds ∙ ap (λ (ks : List Key). length ks) are ∙ length-map steps key_of
