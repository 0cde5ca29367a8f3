-- Values of a file beside the data that they stand for.
use Rattle.std.proofs.Common.{◌≡◌, ℕ, ◌+◌, ◌<◌, zero, suc, length, get_or, take, set, List, [], ◌∷◌, ◌++◌, map, Option, Some, None, refl, ap, sym, ◌∙◌, arith, ◌==◌, true, false}
use Rattle.std.proofs.lemmas.Bool.Decides.{nat_tests}
use Rattle.std.proofs.lemmas.List.{take_more, take_more_set, map-append}
use Rattle.toml.specs.Data.{Data}
use Rattle.toml.specs.View.{view, items_view}
use Rattle.toml.specs.declared.value.Value.{Value}
use Rattle.text_fields.specs.Trees.{list_of, natural, naturals, of_length, before}

-- the members of the array that values stand for
pub list_of-view : (vs : List Value) → list_of (items_view vs) ≡ map view vs
list_of-view [] = refl
list_of-view (v ∷ vs) = ap (λ ds. view v ∷ ds) (list_of-view vs)

empty_parts : (ns : List ℕ) → ◌≡◌ {A = Option (List ℕ)} (Some []) (Some ns) → [] ≡ ns
empty_parts ns e = cc

none_first : (o : Option (List ℕ)) → before None o ≡ None
none_first (Some x) = refl
none_first None = refl

none_last : (o : Option ℕ) → before o None ≡ None
none_last (Some x) = refl
none_last None = refl

push_step : (x : Option ℕ) (xs ys : Option (List ℕ)) (ns : List ℕ) (n : ℕ) → before x xs ≡ Some ns → ((ms : List ℕ) → xs ≡ Some ms → ys ≡ Some (ms ++ n ∷ [])) → before x ys ≡ Some (ns ++ n ∷ [])
push_step (Some m) (Some ms) ys ns n e next = let whole : m ∷ ms ≡ ns = cc in rw (next ms refl, ← whole)
push_step (Some m) None ys ns n e next = cc
push_step None (Some ms) ys ns n e next = cc
push_step None None ys ns n e next = cc

-- one more number at the end
pub naturals-push : (ds : List Data) (d : Data) (ns : List ℕ) (n : ℕ) → naturals ds ≡ Some ns → natural d ≡ Some n → naturals (ds ++ d ∷ []) ≡ Some (ns ++ n ∷ [])
naturals-push [] d ns n e last = let empty = empty_parts ns e in rw (last, ← empty)
naturals-push (x ∷ ds) d ns n e last = push_step (natural x) (naturals ds) _ ns n e (λ ms more. naturals-push ds d ms n more last)

length_step : (x : Option ℕ) (xs : Option (List ℕ)) (ns : List ℕ) (k : ℕ) → before x xs ≡ Some ns → ((ms : List ℕ) → xs ≡ Some ms → length ms ≡ k) → length ns ≡ suc k
length_step (Some m) (Some ms) ns k e next = let whole : m ∷ ms ≡ ns = cc in rw (← whole) (ap (λ j. suc j) (next ms refl))
length_step (Some m) None ns k e next = cc
length_step None (Some ms) ns k e next = cc
length_step None None ns k e next = cc

-- as many numbers as values
pub naturals-length : (ds : List Data) (ns : List ℕ) → naturals ds ≡ Some ns → length ns ≡ length ds
naturals-length [] ns e = let empty = empty_parts ns e in rw (← empty)
naturals-length (x ∷ ds) ns e = length_step (natural x) (naturals ds) ns (length ds) e (λ ms more. naturals-length ds ms more)

-- a value that is no number
pub none_at : (vs : List Value) (i : ℕ) (v : Value) → i < length vs → v ≡ get_or vs i v → natural (view v) ≡ None → naturals (map view vs) ≡ None
none_at [] i v within is none = absurd (omega arith)
none_at (x ∷ vs) zero v within is none =
    let here : natural (view x) ≡ None = ap (λ y. natural (view y)) (sym is) ∙ none in
    rw here (none_first (naturals (map view vs)))
none_at (x ∷ vs) (suc i) v within is none = rw (none_at vs i v (omega arith) is none) (none_last (natural (view x)))

-- one more value that is a number
pub read_more : (vs : List Value) (ns : List ℕ) (i : ℕ) (v : Value) (n : ℕ) → i < length vs → i < length ns → v ≡ get_or vs i v → natural (view v) ≡ Some n
    → naturals (map view (take i vs)) ≡ Some (take i ns) → naturals (map view (take (i + 1) vs)) ≡ Some (take (i + 1) (set ns i n))
read_more vs ns i v n within inside is here so_far =
    rw (take_more vs i v within, ← is, take_more_set ns i n inside, map-append)
    (naturals-push (map view (take i vs)) (view v) (take i ns) n so_far here)

equal_test : (a b : ℕ) → a ≡ b → (a == b) ≡ true
equal_test a b same = grind (arith, nat_tests)

other_test : (a b : ℕ) → (a ≡ b → ⊥) → (a == b) ≡ false
other_test a b other = grind (arith, nat_tests)

-- all the numbers, where they are as many as asked for
pub all_read : (count : ℕ) (ds : List Data) (ns : Option (List ℕ)) → naturals ds ≡ ns → length ds ≡ count → ns ≡ of_length count ns
all_read count ds (Some ns) e long =
    let same : length ns ≡ count = naturals-length ds ns e ∙ long in
    rw (equal_test (length ns) count same)
all_read count ds None e long = refl

-- none, where they are not
pub none_read : (count : ℕ) (ds : List Data) (ns : Option (List ℕ)) → naturals ds ≡ ns → (length ds ≡ count → ⊥) → None ≡ of_length count ns
none_read count ds (Some ns) e other =
    let long = naturals-length ds ns e in
    rw (other_test (length ns) count (λ same. other (sym long ∙ same)))
none_read count ds None e other = refl
