-- Any list of exactly the log's requesters, each once, decides who is busy.
use Rattle.std.proofs.Common.{◌≡◌, ℕ, suc, ◌≤◌, Bool, true, not, ◌&&◌, eqb, leb, List, [], ◌∷◌, length, refl, sym, ◌∙◌, ap, subst, arith, inl, inr}
use Rattle.std.specs.Prelude.{filter, ◌==◌}
use Rattle.std.proofs.lemmas.Bool.{cond_both, cases_Bool, or_cases, not-true, both_ways, false≢true, false_from_ne_true}
use Rattle.model_bus.specs.Carried.{requesters}
use Rattle.model_bus.specs.Repeat.{In, AllDifferent}
use Rattle.model_bus.specs.Slots.{SlotsDecide}
use Rattle.model_bus.proofs.Requesters.{has, in_has, has_in, filter_other, requesters_of}
use Rattle.model_bus.proofs.Windows.{fewer}

-- filtering a member out makes a list shorter
shorter : (p : ℕ) (qs : List ℕ) → has p qs ≡ true → suc (length (filter (λ q. not (q == p)) qs)) ≤ length qs
shorter p [] h = absurd (false≢true h)
shorter p (x ∷ xs) h =
    cond_both (not (eqb x p)) (x ∷ filter (λ q. not (q == p)) xs) (filter (λ q. not (q == p)) xs) (λ l. suc (length l) ≤ length (x ∷ xs))
    (λ t. elim (or_cases _ _ h) [
      | inl here ↦ absurd (both_ways _ (not-true _ t) here)
      | inr there ↦ let less = shorter p xs there in omega arith
    ])
    (λ f. let less = fewer p xs in omega arith)

-- a list without repeats is no longer than one that has all its members
no_longer : (xs ys : List ℕ) → AllDifferent xs → ((q : ℕ) → In q xs → In q ys) → length xs ≤ length ys
no_longer [] ys different within = omega arith
no_longer (x ∷ xs) ys different within =
    let without = filter (λ q. not (q == x)) ys in
    let rest = no_longer xs without different.1
    (λ q is. has_in q without (filter_other q x ys (λ e. different.0 (subst (λ (z : ℕ). In z xs) (sym e) is)) ∙ in_has q ys (within q (inr is)))) in
    let less = shorter x ys (in_has x ys (within x (inl refl))) in
    omega arith

-- lists with the same members have the same ones
same_has : (q : ℕ) (xs ys : List ℕ) → (In q xs → In q ys) → (In q ys → In q xs) → has q xs ≡ has q ys
same_has q xs ys to from =
    elim (cases_Bool (has q xs)) [
      | inl t ↦ t ∙ sym (in_has q ys (to (has_in q xs t)))
      | inr f ↦ f ∙ sym (false_from_ne_true _ (λ t. both_ways _ f (in_has q xs (from (has_in q ys t)))))
    ]

pub slots_decide : SlotsDecide
slots_decide slots log are =
    let all : AllDifferent (requesters log) = (requesters_of log).0 in
    let one = no_longer slots (requesters log) are.different (λ q. (are.exact q).0) in
    let other = no_longer (requesters log) slots all (λ q. (are.exact q).1) in
    let long : length slots ≡ length (requesters log) = omega arith in (
      long,
      λ q.
          ap (λ (t : Bool). not t && leb 8 (length (requesters log))) (same_has q (requesters log) slots (are.exact q).1 (are.exact q).0)
          ∙ ap (λ (n : ℕ). not (has q slots) && leb 8 n) (sym long),
    )
