-- The requesters of a log are those that had something carried out since their last idle, each once.
use Rattle.std.proofs.Common.{◌≡◌, ◌≢◌, ℕ, Bool, true, false, not, ◌||◌, eqb, List, [], ◌∷◌, refl, sym, ◌∙◌, ap, subst, inl, inr}
use Rattle.std.specs.Prelude.{cond, filter, ◌==◌}
use Rattle.std.specs.List.{list_any}
use Rattle.std.proofs.lemmas.Bool.{cond_both, cond-true, cond-false, eqb-true, eq-eqb, ne_eqb, or_from, or_left, or_right, or_cases, cases_eq, cases_Bool, both_ways, true≢false, false≢true, not_from_true, not_from_false}
use Rattle.model_bus.specs.Request.{Kept, Entry, Carried, Idled, carried_since}
use Rattle.model_bus.specs.Carried.{requesters}
use Rattle.model_bus.specs.Repeat.{In, AllDifferent, RequestersOf}

-- a list has a member
abbrev pub is_some_list : List Kept → Bool
is_some_list [] = false
is_some_list (k ∷ ks) = true

-- the list has the requester
abbrev pub has : ℕ → List ℕ → Bool
has q qs = list_any (λ p. p == q) qs

-- filtering another out leaves it, filtering it out takes it away
pub filter_other : (q p : ℕ) (qs : List ℕ) → (p ≡ q → ⊥) → has q (filter (λ x. not (x == p)) qs) ≡ has q qs
filter_other q p [] other = refl
filter_other q p (x ∷ xs) other =
    elim (cases_eq x p) [
      | inl same ↦
          ap (λ (t : Bool). has q (cond t (x ∷ filter (λ x. not (x == p)) xs) (filter (λ x. not (x == p)) xs))) (not_from_true _ (eq-eqb x p same))
          ∙ filter_other q p xs other
          ∙ ap (λ (t : Bool). t || has q xs) (sym (ne_eqb x q (λ e. other (sym same ∙ e))))
      | inr differs ↦
          ap (λ (t : Bool). has q (cond t (x ∷ filter (λ x. not (x == p)) xs) (filter (λ x. not (x == p)) xs))) (not_from_false _ (ne_eqb x p differs))
          ∙ ap (λ (t : Bool). eqb x q || t) (filter_other q p xs other)
    ]

filter_self : (q : ℕ) (qs : List ℕ) → has q (filter (λ x. not (x == q)) qs) ≡ false
filter_self q [] = refl
filter_self q (x ∷ xs) =
    elim (cases_Bool (eqb x q)) [
      | inl t ↦ ap (λ (t : Bool). has q (cond t (x ∷ filter (λ x. not (x == q)) xs) (filter (λ x. not (x == q)) xs))) (not_from_true _ t) ∙ filter_self q xs
      | inr f ↦
          ap (λ (t : Bool). has q (cond t (x ∷ filter (λ x. not (x == q)) xs) (filter (λ x. not (x == q)) xs))) (not_from_false _ f)
          ∙ or_from (eqb x q) _ f (filter_self q xs)
    ]

-- a requester is one of a log's exactly if it had something carried out since its last idle
pub has_carried : (q : ℕ) (log : List Entry) → has q (requesters log) ≡ is_some_list (carried_since q log)
has_carried q [] = refl
has_carried q (Carried k ∷ log) =
    let from = k.request.requester in
    let qs = requesters log in
    elim (cases_eq from q) [
      | inl same ↦
          cond_both (has from qs) qs (from ∷ qs) (λ l. has q l ≡ true)
          (λ t. subst (λ (x : ℕ). has x qs ≡ true) same t)
          (λ f. or_left _ _ (eq-eqb from q same))
          ∙ ap is_some_list (sym (cond-true (eqb from q) (k ∷ carried_since q log) (carried_since q log) (eq-eqb from q same)))
      | inr other ↦
          cond_both (has from qs) qs (from ∷ qs) (λ l. has q l ≡ has q qs)
          (λ t. refl)
          (λ f. ap (λ (t : Bool). t || has q qs) (ne_eqb from q other))
          ∙ has_carried q log
          ∙ ap is_some_list (sym (cond-false (eqb from q) (k ∷ carried_since q log) (carried_since q log) (ne_eqb from q other)))
    ]
has_carried q (Idled p ∷ log) =
    elim (cases_eq p q) [
      | inl same ↦
          ap (λ (x : ℕ). has q (filter (λ y. not (y == x)) (requesters log))) same ∙ filter_self q (requesters log)
          ∙ ap is_some_list (sym (cond-true (eqb p q) [] (carried_since q log) (eq-eqb p q same)))
      | inr other ↦
          filter_other q p (requesters log) other ∙ has_carried q log
          ∙ ap is_some_list (sym (cond-false (eqb p q) [] (carried_since q log) (ne_eqb p q other)))
    ]

pub in_has : (q : ℕ) (qs : List ℕ) → In q qs → has q qs ≡ true
in_has q [] is = absurd is
in_has q (x ∷ xs) (inl e) = or_left _ _ (eq-eqb x q e)
in_has q (x ∷ xs) (inr is) = or_right _ _ (in_has q xs is)

pub has_in : (q : ℕ) (qs : List ℕ) → has q qs ≡ true → In q qs
has_in q [] t = absurd (false≢true t)
has_in q (x ∷ xs) t = elim (or_cases _ _ t) [ inl e ↦ inl (eqb-true x q e) | inr rest ↦ inr (has_in q xs rest) ]

filter_in : (q p : ℕ) (qs : List ℕ) → In q (filter (λ x. not (x == p)) qs) → In q qs
filter_in q p [] is = is
filter_in q p (x ∷ xs) is =
    cond_both (not (eqb x p)) (x ∷ filter (λ x. not (x == p)) xs) (filter (λ x. not (x == p)) xs) (λ l. In q l → In q (x ∷ xs))
    (λ _ here. elim here [ inl e ↦ inl e | inr rest ↦ inr (filter_in q p xs rest) ])
    (λ _ rest. inr (filter_in q p xs rest)) is

filter_different : (p : ℕ) (qs : List ℕ) → AllDifferent qs → AllDifferent (filter (λ x. not (x == p)) qs)
filter_different p [] all = tt
filter_different p (x ∷ xs) all =
    cond_both (not (eqb x p)) (x ∷ filter (λ x. not (x == p)) xs) (filter (λ x. not (x == p)) xs) AllDifferent
    (λ _. ((λ is. all.0 (filter_in x p xs is)), filter_different p xs all.1))
    (λ _. filter_different p xs all.1)

different : (log : List Entry) → AllDifferent (requesters log)
different [] = tt
different (Carried k ∷ log) =
    let from = k.request.requester in
    cond_both (has from (requesters log)) (requesters log) (from ∷ requesters log) AllDifferent
    (λ _. different log)
    (λ f. ((λ is. both_ways _ f (in_has from (requesters log) is)), different log))
different (Idled p ∷ log) = filter_different p (requesters log) (different log)

pub some_list : (ks : List Kept) → is_some_list ks ≡ true → ks ≢ []
some_list ks t empty = true≢false (sym t ∙ ap is_some_list empty)

pub not_empty : (ks : List Kept) → ks ≢ [] → is_some_list ks ≡ true
not_empty [] differs = absurd (differs refl)
not_empty (k ∷ ks) differs = refl

pub empty_list : (ks : List Kept) → is_some_list ks ≡ false → ks ≡ []
empty_list [] f = refl
empty_list (k ∷ ks) f = absurd (true≢false f)

pub requesters_of : (log : List Entry) → RequestersOf log
requesters_of log = (
  different log,
  λ q. (
    (λ is. some_list (carried_since q log) (sym (has_carried q log) ∙ in_has q (requesters log) is)),
    λ differs. has_in q (requesters log) (has_carried q log ∙ not_empty (carried_since q log) differs),
  ),
)
