-- The room that the requests need that undo a plan.
use Rattle.std.specs.Prelude.{drop, slice_get}
use Rattle.std.specs.Option.{option_map}
use Rattle.std.proofs.Common.{◌≡◌, ◌≤◌, ◌<◌, ◌+◌, ◌*◌, ℕ, zero, suc, List, [], ◌∷◌, length, Option, Some, None, refl, sym, ◌∙◌, ap, subst, add-one, arith}
use Rattle.std.proofs.lemmas.Option.{same_Some}
use Rattle.record_base.specs.declared.op.Op.{Op}
use Rattle.record_base.specs.declared.op.Op.TheVariants as op
use Rattle.record_base.specs.declared.message.Asked.{Asked}
use Rattle.record_base.specs.declared.field_changes.FieldChange.{FieldChange}
use Rattle.record_base.specs.declared.numeric_effecter.NumericBytes.{NumericBytes}
use Rattle.record_base.specs.declared.numeric_effecter.NumericBytes.TheVariants.{One, Two, Four, Other}
use Rattle.effecter_recs.specs.FieldChanges.{change_bytes}
use Rattle.effecter_recs.specs.Numeric.{value_bytes}
use Rattle.bios_attr.specs.EntryParts.{first_request, request_at}
use Rattle.record_kinds.specs.Limits.{set_asked, inverse}
use Rattle.record_kinds.specs.Series.{set_whole}
use Rattle.undo_plans.specs.Fitting.{data_of, from_nobody, FitsMessages}
use Rattle.undo_plans.specs.Requests.{RequestList}
use Rattle.undo_plans.proofs.FirstRequest.{goes_alone}
use Rattle.undo_core.specs.Room.{most_data, data_for, HasRoom}

-- ---- a request with all its data

-- it is from nobody
pub whole_from_nobody : (any : Op) → from_nobody (set_whole any) ≡ set_whole any
whole_from_nobody (op.BiosAttribute own) = refl
whole_from_nobody _ = refl

-- it begins with the first request
pub begins_with : (any : Op) → first_request (set_whole any) ≡ set_asked any
begins_with (op.BiosAttribute own) = refl
begins_with _ = refl

-- ---- the data of a request that undoes

few_numbers : (value : NumericBytes) → length (value_bytes value) ≤ 4
few_numbers (One only) = omega arith
few_numbers (Two low high) = omega arith
few_numbers (Four first second third fourth) = omega arith
few_numbers Other = omega arith

two_each : (changes : List FieldChange) → length (change_bytes changes) ≡ 2 * length changes
two_each [] = refl
two_each (change ∷ changes) = omega (arith, two_each changes)

-- they are few but for an attribute
pub short : (any : Op) → FitsMessages (set_whole any) → length (data_of (set_whole any)) ≤ most_data any
short (op.NumericEffecter own) fits = omega (arith, few_numbers own.value)
short (op.StateEffecter own) fits = omega (arith, two_each own.changes, own.few)
short (op.BiosAttribute own) fits = omega (arith, own.fits)
short _ fits = fits

-- what undoes an operation is of its kind
of_kind : {O : Type 0} (as_op : O → Op) (most : ℕ) (made : Option O) (back : Op) → option_map as_op made ≡ Some back → ((own : O) → most_data (as_op own) ≡ most) → most_data back ≡ most
of_kind as_op most None back is same = let both : None ≡ Some back = is in cc both
of_kind as_op most (Some own) back is same = ap most_data (sym (same_Some (as_op own) back is)) ∙ same own

pub same_kind : (any back : Op) (reply : List ℕ) → inverse any reply ≡ Some back → most_data back ≡ most_data any
same_kind (op.BiosAttribute own) back reply is = of_kind op.BiosAttribute 1040 _ back is (λ o. refl)
same_kind _ back reply is = of_kind _ 25 _ back is (λ o. refl)

-- an operation that goes in one request is carried out by it
pub alone_whole : (any : Op) → request_at (set_whole any) 1 ≡ None → set_asked any ≡ set_whole any
alone_whole any alone = sym (begins_with any) ∙ goes_alone (set_whole any) alone

-- so there is room for it
pub alone_fits : (any : Op) (asked : Asked) → request_at (set_whole any) 1 ≡ None → asked ≡ set_asked any → FitsMessages asked → length (data_of (set_whole any)) ≤ most_data any
alone_fits any asked alone is fits = short any (subst FitsMessages (is ∙ alone_whole any alone) fits)

-- ---- the room for steps

-- the steps from one on are that step and those behind it
pub next_step : (steps : List Op) (k : ℕ) (any : Op) → slice_get steps k ≡ Some any → drop k steps ≡ any ∷ drop (suc k) steps
next_step [] k any is = let both : None ≡ Some any = is in cc both
next_step (x ∷ steps) zero any is = ap (λ (o : Op). o ∷ steps) (same_Some x any is)
next_step (x ∷ steps) (suc k) any is = next_step steps k any is

pub place_for : (steps : List Op) (k : ℕ) (any : Op) (requests : RequestList) → slice_get steps k ≡ Some any → HasRoom (drop k steps) requests → 0 < requests.places
place_for steps k any requests there has = omega (arith, has.places, ap (λ (l : List Op). length l) (next_step steps k any there))

pub bytes_for_one : (steps : List Op) (k : ℕ) (any : Op) (requests : RequestList) → slice_get steps k ≡ Some any → HasRoom (drop k steps) requests → most_data any ≤ requests.room
bytes_for_one steps k any requests there has = omega (arith, has.room, ap data_for (next_step steps k any there))

-- the room that is left once one was written
pub room_left : (steps : List Op) (k n : ℕ) (any : Op) (old new : RequestList) → slice_get steps k ≡ Some any → HasRoom (drop k steps) old → n ≤ most_data any
    → old.places ≤ suc new.places → old.room ≤ new.room + n → HasRoom (drop (suc k) steps) new
room_left steps k n any old new there has short places room = record {
  places = omega (arith, has.places, places, ap (λ (l : List Op). length l) (next_step steps k any there));
  room = omega (arith, has.room, room, short, ap data_for (next_step steps k any there));
}

-- ---- the bytes for steps, added up

-- of the steps before the next one more
pub added : (steps : List Op) (k bytes n : ℕ) (any : Op) → slice_get steps k ≡ Some any → n ≡ most_data any → bytes + data_for (drop k steps) ≡ data_for steps
    → (bytes + n) + data_for (drop (k + 1) steps) ≡ data_for steps
added steps k bytes n any there is so_far =
    let next : data_for (drop k steps) ≡ most_data any + data_for (drop (k + 1) steps) = ap data_for (next_step steps k any there) ∙ ap (λ (m : ℕ). most_data any + data_for (drop m steps)) (sym (add-one k)) in
    omega (arith, is, so_far, next)

none_ahead : (steps : List Op) → drop (length steps) steps ≡ []
none_ahead [] = refl
none_ahead (x ∷ steps) = none_ahead steps

-- of all
pub all_added : (steps : List Op) (k bytes : ℕ) → k ≡ length steps → bytes + data_for (drop k steps) ≡ data_for steps → bytes ≡ data_for steps
all_added steps k bytes all so_far = omega (arith, so_far, ap data_for (ap (λ (n : ℕ). drop n steps) all ∙ none_ahead steps))
