-- On a clean link a port's log has the manager's requests alone, each once and in order; so its next is new.
use Rattle.std.proofs.Common.{lit<, ◌≡◌, ℕ, zero, suc, ◌<◌, ◌≤◌, Bool, true, false, cond, ◌&&◌, List, [], ◌∷◌, length, Option, None, sym, ◌∙◌, ap, arith, ◌⊎◌, inl, inr}
use Rattle.std.specs.Prelude.{◌==◌, nat_le}
use Rattle.std.specs.List.{list_any, list_all}
use Rattle.std.proofs.lemmas.Bool.{and_left, and_right, eq-eqb, cond-true, cond-false, cases_eq, cases_Bool}
use Rattle.std.proofs.lemmas.List.Folds.{list_any_at}
use Rattle.model_bus.specs.Request.{Request as Heard, Kept, Entry, Carried, is_same, carried_since, idles_of}
use Rattle.model_bus.specs.Carried.{IsNew, kept_for, requesters, is_busy, outcome, outcome_of}
use Rattle.model_bus.specs.Numbering.{Rules}
use Rattle.model_bus.specs.BusState.{request_of}
use Rattle.model_bus.proofs.NumberLaws.{IsNumbering}
use Rattle.model_bus.proofs.Repeats.{Has, is_same-number, list_all-has}

-- so many requests of the manager were carried out one after another, and nothing else
abbrev pub IsLogOf : Rules → ℕ → List Entry → Type 0
IsLogOf b zero log = log ≡ []
IsLogOf b (suc n) log = (k : Kept) × (rest : List Entry) × (log ≡ Carried k ∷ rest) × (k.request ≡ request_of b n k.request.bytes) × IsLogOf b n rest

-- no window was forgotten
pub none_idle : (b : Rules) (n : ℕ) (log : List Entry) (q : ℕ) → IsLogOf b n log → idles_of q log ≡ 0
none_idle b zero log q is = ap (idles_of q) is
none_idle b (suc n) log q (k, rest, e, r, is) = ap (idles_of q) e ∙ none_idle b n rest q is

module _ (b : Rules) (numbers : IsNumbering b) where
  not_kept : (n : ℕ) (log : List Entry) (newer : List ℕ) (top : ℕ) (bytes : List ℕ) → IsLogOf b n log → n ≤ top → ((d : ℕ) → n ≤ d → d < top → Has newer (b.number_of d))
      → kept_for b.is_above (request_of b top bytes) newer (carried_since b.manager log) ≡ None
  not_kept zero log newer top bytes is below all = ap (λ (l : List Entry). kept_for b.is_above (request_of b top bytes) newer (carried_since b.manager l)) is
  not_kept (suc n) log newer top bytes (k, rest, e, r, is) below all =
      let at_n : k.request.number ≡ b.number_of n = ap (λ (q : Heard). q.number) r in
      let mine : (k.request.requester == b.manager) ≡ true = eq-eqb _ _ (ap (λ (q : Heard). q.requester) r) in
      let all' : (d : ℕ) → n ≤ d → d < top → Has (k.request.number ∷ newer) (b.number_of d) =
      (λ d from to. elim (cases_eq n d) [ inl same ↦ inl (at_n ∙ ap b.number_of same) | inr other ↦ inr (all d (omega arith) to) ]) in
      let next = not_kept n rest (k.request.number ∷ newer) top bytes is (omega arith) all' in
      let test : (is_same (request_of b top bytes) k.request && list_all (b.is_above k.request.number) newer) ≡ false =
      elim (cases_Bool (is_same (request_of b top bytes) k.request)) [
        | inl t ↦
            let f : (d : ℕ) × (n < d) × (d < top) × (b.is_above (b.number_of n) (b.number_of d) ≡ false) = numbers.far n top (omega arith) (sym (is_same-number (request_of b top bytes) k.request t ∙ at_n)) in
            and_right _ _ (list_all-has _ newer (b.number_of f.0) (all f.0 (omega (arith, f.1)) f.2) (ap (λ (x : ℕ). b.is_above x (b.number_of f.0)) at_n ∙ f.3))
        | inr f ↦ and_left _ _ f
      ] in
      ap (λ (l : List Entry). kept_for b.is_above (request_of b top bytes) newer (carried_since b.manager l)) e
      ∙ ap (λ (t : Bool). kept_for b.is_above (request_of b top bytes) newer (cond t (k ∷ carried_since b.manager rest) (carried_since b.manager rest))) mine
      ∙ cond-false _ _ _ test ∙ next

  -- the manager alone has a window
  alone : (n : ℕ) (log : List Entry) → IsLogOf b n log → (requesters log ≡ []) ⊎ (requesters log ≡ b.manager ∷ [])
  alone zero log is = inl (ap requesters is)
  alone (suc n) log (k, rest, e, r, is) =
      let mine : k.request.requester ≡ b.manager = ap (λ (q : Heard). q.requester) r in
      elim (alone n rest is) [
        | inl none ↦ inr (
            ap requesters e
            ∙ ap (λ (l : List ℕ). cond (list_any (λ q. q == k.request.requester) l) l (k.request.requester ∷ l)) none
            ∙ ap (λ (q : ℕ). q ∷ []) mine)
        | inr one ↦ inr (
            ap requesters e
            ∙ ap (λ (l : List ℕ). cond (list_any (λ q. q == k.request.requester) l) l (k.request.requester ∷ l)) one
            ∙ cond-true _ _ _ (list_any_at (λ q. q == k.request.requester) (b.manager ∷ []) 0 0 (lit< tt) (eq-eqb b.manager k.request.requester (sym mine))))
      ]

  has_slot : (n : ℕ) (log : List Entry) → IsLogOf b n log → is_busy b.manager log ≡ false
  has_slot n log is =
      elim (alone n log is) [
        | inl none ↦ and_right _ _ (ap (λ (l : List ℕ). nat_le 8 (length l)) none)
        | inr one ↦ and_right _ _ (ap (λ (l : List ℕ). nat_le 8 (length l)) one)
      ]

  -- the next request is carried out
  pub next_is_new : (n : ℕ) (log : List Entry) (bytes : List ℕ) → IsLogOf b n log → outcome b.is_above (request_of b n bytes) log ≡ IsNew
  next_is_new n log bytes is =
      ap (λ (o : Option (List ℕ)). outcome_of o (is_busy b.manager log)) (not_kept n log [] n bytes is (omega arith) (λ d from to. absurd (omega arith)))
      ∙ ap (outcome_of None) (has_slot n log is)
