-- Records in a list, and the place of each.
use Rattle.std.proofs.Common.{◌≡◌, ◌≢◌, ◌↔◌, ◌<◌, IsNone, is_some, ℕ, zero, suc, List, [], ◌∷◌, ◌++◌, length, set, Option, Some, None, Bool, true, false, if◌then◌else◌, slice_get, IsTrue, ◌==◌, arith, refl, ap, sym, ◌∙◌, subst}
use Rattle.std.specs.Option.{option_map}
use Rattle.std.proofs.lemmas.Option.{slice_get_within}
use Rattle.std.proofs.lemmas.Bool.Decides.{nat_tests}
use Rattle.record_base.specs.declared.key.Key.{Key}
use Rattle.record_base.specs.Keys.{same_key}
use Rattle.record_base.specs.KeyLaws.{exact_key, same_key_self}
use Rattle.cfg_records.specs.Records.{Pair, value_of, with_record}
use Rattle.cfg_records.specs.Places.{value_at, has_key, ArePlaced}

-- ---- lists

-- what stands in a list stands there where more follows
get_left : (xs ys : List Pair) (i : ℕ) (p : Pair) → slice_get xs i ≡ Some p → slice_get (xs ++ ys) i ≡ Some p
get_left [] ys i p e = cc
get_left (x ∷ xs) ys zero p e = e
get_left (x ∷ xs) ys (suc i) p e = get_left xs ys i p e

get_last : (xs : List Pair) (p : Pair) → slice_get (xs ++ p ∷ []) (length xs) ≡ Some p
get_last [] p = refl
get_last (x ∷ xs) p = get_last xs p

get_set : (xs : List Pair) (i : ℕ) (p q : Pair) → slice_get xs i ≡ Some q → slice_get (set xs i p) i ≡ Some p
get_set [] i p q e = cc
get_set (x ∷ xs) zero p q e = refl
get_set (x ∷ xs) (suc i) p q e = get_set xs i p q e

get_set_other : (xs : List Pair) (i j : ℕ) (p : Pair) → j ≢ i → slice_get (set xs i p) j ≡ slice_get xs j
get_set_other [] i j p differ = refl
get_set_other (x ∷ xs) zero zero p differ = absurd (differ refl)
get_set_other (x ∷ xs) zero (suc j) p differ = refl
get_set_other (x ∷ xs) (suc i) zero p differ = refl
get_set_other (x ∷ xs) (suc i) (suc j) p differ = get_set_other xs i j p (λ same. differ (ap suc same))

-- ---- the pair at a key's place

pub record Stands (key : Key) (found : Option Pair) : Type 0 where
  pub pair : Pair
  pub is_it : found ≡ Some pair
  pub its : pair.0 ≡ key

pub stands : (key : Key) (found : Option Pair) → IsTrue (has_key key found) → Stands key found
stands key (Some pair) is = record { pair = pair; is_it = refl; its = exact_key pair.0 key is }
stands key None is = cc

-- a key with a place has a value
pub has_place : (pairs : List Pair) (places : Key → Option ℕ) → ArePlaced pairs places → (key : Key) (place : ℕ) → places key ≡ Some place → (value : List ℕ) × (value_at pairs (places key) ≡ Some value)
has_place pairs places placed key place at =
    let found : Stands key (slice_get pairs place) = stands key (slice_get pairs place) (placed key place at) in
    (found.pair.1, ap (value_at pairs) at ∙ ap (option_map value_of) found.is_it)

-- a key has a place exactly where it has a value
pub absent_together : (pairs : List Pair) (places : Key → Option ℕ) → ArePlaced pairs places → (key : Key) (found : Option ℕ) → places key ≡ found → IsNone found ↔ IsNone (value_at pairs found)
absent_together pairs places placed key (Some place) at =
    let had : Stands key (slice_get pairs place) = stands key (slice_get pairs place) (placed key place at) in
    let value : value_at pairs (Some place) ≡ Some had.pair.1 = ap (option_map value_of) had.is_it in
    (λ none. let no : true ≡ false = none in cc, λ none. let no : true ≡ false = sym (ap is_some value) ∙ none in cc)
absent_together pairs places placed key None at = (λ none. none, λ none. none)

-- a place of a key is inside the list
pub inside : (pairs : List Pair) (places : Key → Option ℕ) → ArePlaced pairs places → (key : Key) (place : ℕ) → places key ≡ Some place → place < length pairs
inside pairs places placed key place at =
    let had : Stands key (slice_get pairs place) = stands key (slice_get pairs place) (placed key place at) in
    slice_get_within pairs place had.pair had.is_it

-- ---- a pair more

more_placed : (before : List Pair) (p : Pair) (places : Key → Option ℕ) → ArePlaced before places → (key : Key) (place : ℕ) (b : Bool) → same_key p.0 key ≡ b → (if b then Some (length before) else places key) ≡ Some place
    → IsTrue (has_key key (slice_get (before ++ p ∷ []) place))
more_placed before p places placed key place true same is =
    let here : length before ≡ place = cc in
    subst (λ (n : ℕ). IsTrue (has_key key (slice_get (before ++ p ∷ []) n))) here (subst (λ (found : Option Pair). IsTrue (has_key key found)) (sym (get_last before p)) same)
more_placed before p places placed key place false same is =
    let at : Stands key (slice_get before place) = stands key (slice_get before place) (placed key place is) in
    subst (λ (found : Option Pair). IsTrue (has_key key found)) (sym (get_left before (p ∷ []) place at.pair at.is_it)) (subst (λ (k : Key). IsTrue (same_key k key)) (sym at.its) (same_key_self key))

pub placed_push : (before : List Pair) (p : Pair) (places more : Key → Option ℕ) → ArePlaced before places → ((key : Key) → more key ≡ (if same_key p.0 key then Some (length before) else places key)) → ArePlaced (before ++ p ∷ []) more
placed_push before p places more placed added = λ key place is. more_placed before p places placed key place (same_key p.0 key) refl (sym (added key) ∙ is)

old_value : (before : List Pair) (p : Pair) (places : Key → Option ℕ) → ArePlaced before places → (key : Key) (found : Option ℕ) → places key ≡ found → value_at (before ++ p ∷ []) found ≡ value_at before found
old_value before p places placed key (Some place) is =
    let at : Stands key (slice_get before place) = stands key (slice_get before place) (placed key place is) in
    ap (option_map value_of) (get_left before (p ∷ []) place at.pair at.is_it ∙ sym at.is_it)
old_value before p places placed key None is = refl

more_values : (before : List Pair) (p : Pair) (places : Key → Option ℕ) → ArePlaced before places → (key : Key) (b : Bool)
    → value_at (before ++ p ∷ []) (if b then Some (length before) else places key) ≡ (if b then Some p.1 else value_at before (places key))
more_values before p places placed key true = ap (option_map value_of) (get_last before p)
more_values before p places placed key false = old_value before p places placed key (places key) refl

pub values_push : (before : List Pair) (p : Pair) (places more : Key → Option ℕ) → ArePlaced before places → ((key : Key) → more key ≡ (if same_key p.0 key then Some (length before) else places key))
    → (key : Key) → value_at (before ++ p ∷ []) (more key) ≡ with_record (λ (k : Key). value_at before (places k)) p.0 p.1 key
values_push before p places more placed added key = ap (value_at (before ++ p ∷ [])) (added key) ∙ more_values before p places placed key (same_key p.0 key)

-- ---- a value that is written

-- two keys of one place are one
one_key : (key other : Key) (found : Option Pair) → IsTrue (has_key key found) → IsTrue (has_key other found) → key ≡ other
one_key key other (Some pair) is also = sym (exact_key pair.0 key is) ∙ exact_key pair.0 other also
one_key key other None is also = cc

written_at : (pairs : List Pair) (places : Key → Option ℕ) (key : Key) (place : ℕ) (p q : Pair) → ArePlaced pairs places → places key ≡ Some place → slice_get pairs place ≡ Some q → (k : Key) (b : Bool) → same_key key k ≡ b → (found : Option ℕ) → places k ≡ found
    → value_at (set pairs place p) found ≡ (if b then Some p.1 else value_at pairs found)
written_at pairs places key place p q placed at was k true same found is =
    let here : found ≡ Some place = sym is ∙ ap places (sym (exact_key key k same)) ∙ at in
    ap (value_at (set pairs place p)) here ∙ ap (option_map value_of) (get_set pairs place p q was)
written_at pairs places key place p q placed at was k false same (Some other) is =
    ap (option_map value_of) (get_set_other pairs place other p (λ (equal : other ≡ place).
    let one : key ≡ k = one_key key k (slice_get pairs place) (placed key place at) (placed k place (is ∙ ap Some equal)) in
    let self : same_key key k ≡ true = subst (λ (o : Key). same_key key o ≡ true) one (same_key_self key) in
    cc))
written_at pairs places key place p q placed at was k false same None is = refl

-- the records have the value at the key, and no other is changed
pub written : (pairs : List Pair) (places : Key → Option ℕ) (key : Key) (place : ℕ) (p q : Pair) → ArePlaced pairs places → places key ≡ Some place → slice_get pairs place ≡ Some q
    → (λ (k : Key). value_at (set pairs place p) (places k)) ≡ with_record (λ (k : Key). value_at pairs (places k)) key p.1
written pairs places key place p q placed at was = λ i k. written_at pairs places key place p q placed at was k (same_key key k) refl (places k) refl i

same_places : (m n : ℕ) → (m == n) ≡ true → m ≡ n
same_places m n h = grind (arith, nat_tests)

other_places : (m n : ℕ) → (m == n) ≡ false → m ≢ n
other_places m n h = grind (arith, nat_tests)

placed_where : (pairs : List Pair) (places : Key → Option ℕ) (place : ℕ) (p q : Pair) → ArePlaced pairs places → slice_get pairs place ≡ Some q → p.0 ≡ q.0 → (k : Key) (other : ℕ) (b : Bool) → (other == place) ≡ b → places k ≡ Some other
    → IsTrue (has_key k (slice_get (set pairs place p) other))
placed_where pairs places place p q placed was same k other true e is =
    let here : other ≡ place = same_places _ _ e in
    let stood : IsTrue (has_key k (slice_get pairs place)) = placed k place (is ∙ ap Some here) in
    let at : Stands k (slice_get pairs place) = stands k (slice_get pairs place) stood in
    let q_is : at.pair ≡ q = cc in
    let named : p.0 ≡ k = same ∙ sym (ap (λ (r : Pair). r.0) q_is) ∙ at.its in
    subst (λ (n : ℕ). IsTrue (has_key k (slice_get (set pairs place p) n))) (sym here)
    (subst (λ (found : Option Pair). IsTrue (has_key k found)) (sym (get_set pairs place p q was)) (subst (λ (o : Key). IsTrue (same_key o k)) (sym named) (same_key_self k)))
placed_where pairs places place p q placed was same k other false e is =
    subst (λ (found : Option Pair). IsTrue (has_key k found)) (sym (get_set_other pairs place other p (other_places _ _ e))) (placed k other is)

-- each key still has its pair
pub still_placed : (pairs : List Pair) (places : Key → Option ℕ) (place : ℕ) (p q : Pair) → ArePlaced pairs places → slice_get pairs place ≡ Some q → p.0 ≡ q.0 → ArePlaced (set pairs place p) places
still_placed pairs places place p q placed was same = λ k other is. placed_where pairs places place p q placed was same k other (other == place) refl is
