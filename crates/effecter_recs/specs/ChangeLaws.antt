-- Laws of changes of fields.
use Rattle.std.proofs.Common.{◌≡◌, ℕ, zero, suc, ◌*◌, ◌<◌, ◌≤◌, List, [], ◌∷◌, length, take, drop, slice_get, slice_index, Some, Bool, true, false, ◌||◌, if◌then◌else◌, refl, sym, ap, subst, ◌∙◌, arith}
use Rattle.std.proofs.Props.{props}
use Rattle.std.specs.List.{list_any, list_all}
use Rattle.std.proofs.lemmas.Grind.{same_number_lists}
use Rattle.std.proofs.lemmas.List.{length-take, take_all}
use Rattle.record_base.specs.MaskLaws.{both}
use Rattle.record_base.specs.declared.field_changes.FieldChange.{FieldChange}
use Rattle.record_base.specs.declared.state_effecter.SetStateEffecter.{SetStateEffecter}
use Rattle.effecter_recs.specs.FieldChanges.{set_to, leave, is_set, is_choice, is_plain_change, ChangesStates, changed, changed_states, change_bytes, changes_of, shown_fields, shown_states, undo_changes}

-- ---- how many there are

pub nine_taken : (changes : List FieldChange) → length (take 9 changes) ≤ 9
nine_taken changes = omega (arith, length-take 9 changes)

pub as_many_undone : (changes : List FieldChange) (shown : List ℕ) → length (undo_changes changes shown) ≡ length changes
as_many_undone [] shown = refl
as_many_undone (c ∷ cs) shown = let rest : length (undo_changes cs (drop 3 shown)) ≡ length cs = as_many_undone cs (drop 3 shown) in omega arith

pub few_undone : (changes : List FieldChange) (shown : List ℕ) → length changes ≤ 9 → length (undo_changes changes shown) ≤ 9
few_undone changes shown few = let same : length (undo_changes changes shown) ≡ length changes = as_many_undone changes shown in omega arith

pub two_each : (changes : List FieldChange) → length (change_bytes changes) ≡ 2 * length changes
two_each [] = refl
two_each (c ∷ cs) = let rest : length (change_bytes cs) ≡ 2 * length cs = two_each cs in omega arith

pub three_each : (operational : ℕ) (states : List ℕ) → length (shown_fields operational states) ≡ 3 * length states
three_each operational [] = refl
three_each operational (s ∷ ss) = let rest : length (shown_fields operational ss) ≡ 3 * length ss = three_each operational ss in omega arith

-- operations with the same changes of the same effecter are the same
abbrev set_states : (effecter : ℕ) (changes : List FieldChange) → length changes ≤ 9 → SetStateEffecter
set_states effecter changes few = record { effecter = effecter; changes = changes; few = few }

few_prop : (n : ℕ) → IsProp (n ≤ 9)
few_prop n = hlevel props

pub same_states : (a b : ℕ) (cs ds : List FieldChange) (p : length cs ≤ 9) (q : length ds ≤ 9) → a ≡ b → cs ≡ ds → set_states a cs p ≡ set_states b ds q
same_states a b cs ds p q same_id same =
    subst (λ (n : ℕ). set_states a cs p ≡ set_states n ds q) same_id
    (subst (λ (more : List FieldChange). (r : length more ≤ 9) → set_states a cs p ≡ set_states a more r) same (λ r i. set_states a cs (few_prop (length cs) p r i)) q)

-- ---- changes that were written are read

pub read_back : (changes : List FieldChange) → changes_of (change_bytes changes) ≡ changes
read_back [] = refl
read_back (c ∷ cs) = ap (λ (more : List FieldChange). c ∷ more) (read_back cs)

-- bytes say one change after another, while there are two
pub none_in : (bytes : List ℕ) → length bytes < 2 → changes_of bytes ≡ []
none_in [] few = refl
none_in (a ∷ []) few = refl
none_in (a ∷ b ∷ bytes) few = absurd (omega arith)

pub first_in : (bytes : List ℕ) → 2 ≤ length bytes → changes_of bytes ≡ record { choice = slice_index bytes 0; state = slice_index bytes 1 } ∷ changes_of (drop 2 bytes)
first_in [] some = absurd (omega arith)
first_in (a ∷ []) some = absurd (omega arith)
first_in (a ∷ b ∷ bytes) some = refl

-- 9 of at most 9 are all
pub all_read : (changes : List FieldChange) → length changes ≤ 9 → take 9 (changes_of (change_bytes changes)) ≡ changes
all_read changes few = ap (take 9) (read_back changes) ∙ take_all 9 changes few

-- ---- what changes make

pub as_many_changed : (changes : List FieldChange) (old : List ℕ) → length (changed_states changes old) ≡ length changes
as_many_changed [] old = refl
as_many_changed (c ∷ cs) old = ap suc (as_many_changed cs (drop 1 old))

behind_one : (old : List ℕ) (place : ℕ) → slice_index (drop 1 old) place ≡ slice_index old (suc place)
behind_one [] place = refl
behind_one (s ∷ ss) place = refl

same_some : (c d : FieldChange) → Some c ≡ Some d → c ≡ d
same_some c d same = cc

changed_at : (changes : List FieldChange) (old : List ℕ) (place : ℕ) (change : FieldChange) → slice_get changes place ≡ Some change
    → slice_index (changed_states changes old) place ≡ changed change (slice_index old place)
changed_at [] old place change there = cc
changed_at (c ∷ cs) old zero change there = ap (λ (d : FieldChange). changed d (slice_index old 0)) (same_some c change there)
changed_at (c ∷ cs) old (suc place) change there = changed_at cs (drop 1 old) place change there ∙ ap (changed change) (behind_one old place)

-- the relation holds of the function's states, and of no others
pub changes_states : (changes : List FieldChange) (old : List ℕ) → ChangesStates changes old (changed_states changes old)
changes_states changes old = record {
  many = as_many_changed changes old;
  set = λ place change there is. changed_at changes old place change there ∙ ap (λ (b : Bool). if b then change.state else slice_index old place) is;
  left = λ place change there is. changed_at changes old place change there ∙ ap (λ (b : Bool). if b then change.state else slice_index old place) is;
}

one_state : (changes : List FieldChange) (old new : List ℕ) (place : ℕ) (change : FieldChange) (b : Bool) → ChangesStates changes old new → slice_get changes place ≡ Some change → is_set change ≡ b
    → slice_index new place ≡ (if b then change.state else slice_index old place)
one_state changes old new place change true made there is = made.set place change there is
one_state changes old new place change false made there is = made.left place change there is

change_at : (changes : List FieldChange) (place : ℕ) → place < length changes → (change : FieldChange) × (slice_get changes place ≡ Some change)
change_at [] place within = absurd (omega arith)
change_at (c ∷ cs) zero within = (c, refl)
change_at (c ∷ cs) (suc place) within = change_at cs place (omega arith)

state_at : (changes : List FieldChange) (old new : List ℕ) (place : ℕ) → ChangesStates changes old new → place < length changes → slice_index new place ≡ slice_index (changed_states changes old) place
state_at changes old new place made within =
    let found = change_at changes place within in
    one_state changes old new place found.0 (is_set found.0) made found.1 refl ∙ sym (changed_at changes old place found.0 found.1)

pub only_states : (changes : List FieldChange) (old new : List ℕ) → ChangesStates changes old new → new ≡ changed_states changes old
only_states changes old new made =
    same_number_lists new (changed_states changes old) (made.many ∙ sym (as_many_changed changes old))
    (λ place within. state_at changes old new place made (subst (λ (n : ℕ). place < n) made.many within))

-- ---- what undoes changes

-- a change and its inverse are on the same field
one_set : (b : Bool) (state : ℕ) → is_set (if b then set_to state else leave) ≡ b
one_set true state = refl
one_set false state = refl

one_choice : (b : Bool) (state : ℕ) → is_choice (if b then set_to state else leave) ≡ true
one_choice true state = refl
one_choice false state = refl

one_plain : (b : Bool) (state : ℕ) → is_plain_change (if b then set_to state else leave) ≡ true
one_plain true state = refl
one_plain false state = refl

either : (a b c d : Bool) → a ≡ b → c ≡ d → (a || c) ≡ (b || d)
either a b c d p q = cc

pub same_set : (changes : List FieldChange) (shown : List ℕ) → list_any is_set (undo_changes changes shown) ≡ list_any is_set changes
same_set [] shown = refl
same_set (c ∷ cs) shown = either _ _ _ _ (one_set (is_set c) (slice_index shown 2)) (same_set cs (drop 3 shown))

pub undo_chooses : (changes : List FieldChange) (shown : List ℕ) → list_all is_choice (undo_changes changes shown) ≡ true
undo_chooses [] shown = refl
undo_chooses (c ∷ cs) shown = both _ _ (one_choice (is_set c) (slice_index shown 2)) (undo_chooses cs (drop 3 shown))

pub undo_is_plain : (changes : List FieldChange) (shown : List ℕ) → list_all is_plain_change (undo_changes changes shown) ≡ true
undo_is_plain [] shown = refl
undo_is_plain (c ∷ cs) shown = both _ _ (one_plain (is_set c) (slice_index shown 2)) (undo_is_plain cs (drop 3 shown))

one_back : (b : Bool) (state old : ℕ) → changed (if b then set_to old else leave) (if b then state else old) ≡ old
one_back true state old = refl
one_back false state old = refl

-- the inverse of changes brings each state back
pub states_back : (operational : ℕ) (changes : List FieldChange) (old : List ℕ) → length changes ≡ length old → changed_states (undo_changes changes (shown_fields operational old)) (changed_states changes old) ≡ old
states_back operational [] [] long = refl
states_back operational (c ∷ cs) (s ∷ ss) long = λ i. one_back (is_set c) c.state s i ∷ states_back operational cs ss (omega arith) i
states_back operational [] (s ∷ ss) long = absurd (omega arith)
states_back operational (c ∷ cs) [] long = absurd (omega arith)

-- ---- what is shown

-- states with the same bytes in a reply are the same
pub states_told : (operational : ℕ) (a b : List ℕ) → shown_states (shown_fields operational a) ≡ shown_states (shown_fields operational b) → a ≡ b
states_told operational [] [] same = refl
states_told operational (a ∷ more) (b ∷ others) same =
    let first : a ≡ b = cc in
    let later : shown_states (shown_fields operational more) ≡ shown_states (shown_fields operational others) = cc in
    let rest : more ≡ others = states_told operational more others later in cc
states_told operational [] (b ∷ others) same = cc
states_told operational (a ∷ more) [] same = cc
