-- What a window holds at a number after each entry of a log.
use Rattle.std.proofs.Common.{◌≡◌, ℕ, Bool, true, false, List, ◌∷◌, Option, Some, None, cond, sym, ◌∙◌, ap}
use Rattle.std.proofs.lemmas.Bool.{eq-eqb, ne_eqb}
use Rattle.model_bus.specs.Request.{Kept, Entry, Carried, Idled}
use Rattle.model_bus.specs.Numbering.{is_next}
use Rattle.model_bus.specs.Window.{Window, empty_window, window_after, windows_of}

module _ (circle : ℕ) (log : List Entry) (q n : ℕ) where
  -- the entry is of this requester
  mine : (k : Kept) → k.request.requester ≡ q → windows_of circle (Carried k ∷ log) q n ≡ window_after circle k (windows_of circle log q) n
  mine k e = ap (λ (t : Bool). let w : Window = cond t (window_after circle k (windows_of circle log q)) (windows_of circle log q) in w n) (eq-eqb k.request.requester q e)

  -- a carried request stands at its number
  pub window_here : (k : Kept) → k.request.requester ≡ q → k.request.number ≡ n → windows_of circle (Carried k ∷ log) q n ≡ Some k
  window_here k e at = mine k e ∙ ap (λ (t : Bool). cond t (Some k) (cond (is_next circle k.request.number n) None (windows_of circle log q n))) (eq-eqb n k.request.number (sym at))

  not_here : (k : Kept) → k.request.requester ≡ q → (k.request.number ≡ n → ⊥) → windows_of circle (Carried k ∷ log) q n ≡ cond (is_next circle k.request.number n) None (windows_of circle log q n)
  not_here k e other = mine k e ∙ ap (λ (t : Bool). cond t (Some k) (cond (is_next circle k.request.number n) None (windows_of circle log q n))) (ne_eqb n k.request.number (λ at. other (sym at)))

  -- the next half of the circle is forgotten
  pub window_next : (k : Kept) → k.request.requester ≡ q → (k.request.number ≡ n → ⊥) → is_next circle k.request.number n ≡ true → windows_of circle (Carried k ∷ log) q n ≡ None
  window_next k e other next = not_here k e other ∙ ap (λ (t : Bool). let none : Option Kept = None in cond t none (windows_of circle log q n)) next

  -- the rest stays
  pub window_far : (k : Kept) → k.request.requester ≡ q → (k.request.number ≡ n → ⊥) → is_next circle k.request.number n ≡ false → windows_of circle (Carried k ∷ log) q n ≡ windows_of circle log q n
  window_far k e other far = not_here k e other ∙ ap (λ (t : Bool). let none : Option Kept = None in cond t none (windows_of circle log q n)) far

  -- another requester's window stays
  pub window_other : (k : Kept) → (k.request.requester ≡ q → ⊥) → windows_of circle (Carried k ∷ log) q n ≡ windows_of circle log q n
  window_other k other = ap (λ (t : Bool). let w : Window = cond t (window_after circle k (windows_of circle log q)) (windows_of circle log q) in w n) (ne_eqb k.request.requester q other)

  -- an idle requester's window is empty
  pub window_idle : (p : ℕ) → p ≡ q → windows_of circle (Idled p ∷ log) q n ≡ None
  window_idle p e = ap (λ (t : Bool). let w : Window = cond t empty_window (windows_of circle log q) in w n) (eq-eqb p q e)

  pub window_idle_other : (p : ℕ) → (p ≡ q → ⊥) → windows_of circle (Idled p ∷ log) q n ≡ windows_of circle log q n
  window_idle_other p other = ap (λ (t : Bool). let w : Window = cond t empty_window (windows_of circle log q) in w n) (ne_eqb p q other)
