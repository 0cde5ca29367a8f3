-- Two lists that say who has which window, and whose each window is.
use Rattle.std.proofs.Common.{◌≡◌, ℕ, suc, zero, ◌+◌, ◌<◌, ◌≤◌, List, [], ◌∷◌, length, get_or, Option, Some, None, refl, sym, ◌∙◌, ap, inl, inr, arith}
use Rattle.std.specs.List.{position_or_len}
use Rattle.std.proofs.Math.ListN.{set, replicate}
use Rattle.std.proofs.lemmas.Bool.{cases_eq}
use Rattle.std.proofs.lemmas.List.{get_or-set_same, get_or-set_other}
use Rattle.std.proofs.lemmas.Option.{same_Some, none-some}
use Rattle.model_bus.specs.Repeat.{In, AllDifferent}
use Rattle.bmc_core.specs.Keeps.{somes}
use Rattle.std.specs.Option.{is_none}

-- what a list has at a place
abbrev pub at : List (Option ℕ) → ℕ → Option ℕ
at xs n = get_or xs n None

-- what the one list has, the other has the other way round
abbrev pub Ties : List (Option ℕ) → List (Option ℕ) → Type 0
Ties xs ys = (a b : ℕ) → at xs a ≡ Some b → at ys b ≡ Some a

-- one more pair
pub tie : (xs ys : List (Option ℕ)) (a b : ℕ) → a < length xs → b < length ys → at ys b ≡ None → Ties xs ys → Ties (set xs a (Some b)) (set ys b (Some a))
tie xs ys a b within within_b nobody ties x y is =
    elim (cases_eq x a) [
      | inl same ↦
          let here : y ≡ b = same_Some y b (sym is ∙ ap (at (set xs a (Some b))) same ∙ get_or-set_same xs a (Some b) None within) in
          ap (at (set ys b (Some a))) here ∙ get_or-set_same ys b (Some a) None within_b ∙ ap (λ (z : ℕ). Some z) (sym same)
      | inr other ↦
          let old : at ys y ≡ Some x = ties x y (sym (get_or-set_other xs a x (Some b) None other) ∙ is) in
          get_or-set_other ys b y (Some a) None (λ e. none-some x (sym nobody ∙ ap (at ys) (sym e) ∙ old)) ∙ old
    ]

-- one pair less
pub untie : (xs ys : List (Option ℕ)) (a b : ℕ) → a < length xs → at ys b ≡ Some a → Ties xs ys → Ties (set xs a None) (set ys b None)
untie xs ys a b within pair ties x y is =
    elim (cases_eq x a) [
      | inl same ↦ absurd (none-some y (sym (ap (at (set xs a None)) same ∙ get_or-set_same xs a None None within) ∙ is))
      | inr other ↦
          let old : at ys y ≡ Some x = ties x y (sym (get_or-set_other xs a x None None other) ∙ is) in
          get_or-set_other ys b y None None (λ e. other (same_Some x a (sym old ∙ ap (at ys) e ∙ pair))) ∙ old
    ]

-- ---- those that are there

pub in_somes : (os : List (Option ℕ)) (s q : ℕ) → at os s ≡ Some q → In q (somes os)
in_somes [] s q is = absurd (none-some q is)
in_somes (None ∷ os) zero q is = absurd (none-some q is)
in_somes (Some p ∷ os) zero q is = inl (same_Some p q is)
in_somes (None ∷ os) (suc s) q is = in_somes os s q is
in_somes (Some p ∷ os) (suc s) q is = inr (in_somes os s q is)

pub from_somes : (os : List (Option ℕ)) (q : ℕ) → In q (somes os) → (s : ℕ) × (at os s ≡ Some q)
from_somes [] q is = absurd is
from_somes (None ∷ os) q is = let rest = from_somes os q is in (suc rest.0, rest.1)
from_somes (Some p ∷ os) q (inl e) = (zero, ap (λ (x : ℕ). Some x) e)
from_somes (Some p ∷ os) q (inr is) = let rest = from_somes os q is in (suc rest.0, rest.1)

pub different : (os : List (Option ℕ)) → ((s t q : ℕ) → at os s ≡ Some q → at os t ≡ Some q → s ≡ t) → AllDifferent (somes os)
different [] one = tt
different (None ∷ os) one = different os (λ s t q here there. let e = one (suc s) (suc t) q here there in omega arith)
different (Some p ∷ os) one = (
  (λ is. let there = from_somes os p is in let e = one zero (suc there.0) p refl there.1 in absurd (omega arith)),
  different os (λ s t q here there. let e = one (suc s) (suc t) q here there in omega arith),
)

pub few : (os : List (Option ℕ)) → length (somes os) ≤ length os
few [] = omega arith
few (None ∷ os) = let rest = few os in omega arith
few (Some q ∷ os) = let rest = few os in omega arith

pub full : (os : List (Option ℕ)) → length os ≤ position_or_len is_none os → length (somes os) ≡ length os
full [] past = refl
full (None ∷ os) past = absurd (omega arith)
full (Some q ∷ os) past = ap suc (full os (omega arith))

one_more : (n : ℕ) → 1 + n ≡ suc n
one_more n = omega arith

pub room : (os : List (Option ℕ)) → position_or_len is_none os < length os → (suc (length (somes os)) ≤ length os) × (at os (position_or_len is_none os) ≡ None)
room [] within = absurd (omega arith)
room (None ∷ os) within = (let rest = few os in omega arith, refl)
room (Some q ∷ os) within = let rest = room os (omega arith) in (let more = rest.0 in omega arith, ap (at (Some q ∷ os)) (one_more (position_or_len is_none os)) ∙ rest.1)

pub nobody : (n q : ℕ) → at (replicate n None) q ≡ None
nobody zero q = refl
nobody (suc n) zero = refl
nobody (suc n) (suc q) = nobody n q
