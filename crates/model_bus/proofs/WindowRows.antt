-- The rows of a window answer as the rule on the list of what was carried.
use Rattle.std.proofs.Common.{◌≡◌, ℕ, ◌<◌, Bool, true, false, not, ◌&&◌, eqb, List, [], ◌∷◌, Option, Some, None, refl, sym, ◌∙◌, ap, inl, inr}
use Rattle.std.specs.Prelude.{cond}
use Rattle.std.specs.List.{list_all}
use Rattle.std.proofs.lemmas.Bool.{cond_both, eq-eqb, ne_eqb, and_left, cases_eq, false_from_ne_true}
use Rattle.model_bus.specs.Request.{Request, Kept, Entry, Carried, Idled, is_same, carried_since}
use Rattle.model_bus.specs.Carried.{kept_for, outcome_of, is_busy}
use Rattle.model_bus.specs.Numbering.{is_above, is_next}
use Rattle.model_bus.specs.Window.{Window, empty_window, window_after, window_of, windows_of, reply_in, AllOnCircle, RowsAreTheRule, WindowsApart}
use Rattle.model_bus.proofs.NumberLaws.{IsCircle, circle_64, circle_32}
use Rattle.model_bus.proofs.Repeats.{is_same-number}

-- every carried number is on the circle
abbrev pub AllBelow : ℕ → List Kept → Type 0
AllBelow circle [] = Unit {0}
AllBelow circle (k ∷ ks) = (k.request.number < circle) × AllBelow circle ks

-- the request takes the row of its own number
at_row : (t s : Bool) (x : List ℕ) (rest : Option (List ℕ)) → rest ≡ None → cond (s && t) (Some x) rest ≡ cond t (cond s (Some x) None) None
at_row true true x rest e = refl
at_row true false x rest e = e
at_row false true x rest e = e
at_row false false x rest e = e

-- another row is looked at only where it isn't forgotten
past_row : (a t : Bool) (x : Option (List ℕ)) (old : Option Kept) (r : Request) → reply_in r old ≡ x → cond (a && t) x None ≡ cond t (reply_in r (cond (not a) None old)) None
past_row true true x old r e = sym e
past_row true false x old r e = refl
past_row false true x old r e = refl
past_row false false x old r e = refl

none_either : (t : Bool) → let none : Option (List ℕ) = None in none ≡ cond t none none
none_either true = refl
none_either false = refl

module _ (circle : ℕ) where
  kept_case : (t : Bool) (k : Kept) (w : Window) (ks : List Kept) (n : ℕ) → w n ≡ window_of circle ks n → cond t (window_after circle k w n) (w n) ≡ window_of circle (cond t (k ∷ ks) ks) n
  kept_case true k w ks n e = ap (λ (o : Option Kept). cond (eqb n k.request.number) (Some k) (cond (is_next circle k.request.number n) None o)) e
  kept_case false k w ks n e = e

  idle_case : (t : Bool) (w : Window) (ks : List Kept) (n : ℕ) → w n ≡ window_of circle ks n → cond t None (w n) ≡ window_of circle (cond t [] ks) n
  idle_case true w ks n e = refl
  idle_case false w ks n e = e

  apply_cond : (t : Bool) (f g : Window) (n : ℕ) → cond t f g n ≡ cond t (f n) (g n)
  apply_cond true f g n = refl
  apply_cond false f g n = refl

  pub windows_apart : WindowsApart circle
  windows_apart [] q n = refl
  windows_apart (Carried k ∷ log) q n =
      apply_cond (eqb k.request.requester q) (window_after circle k (windows_of circle log q)) (windows_of circle log q) n
      ∙ kept_case (eqb k.request.requester q) k (windows_of circle log q) (carried_since q log) n (windows_apart log q n)
  windows_apart (Idled p ∷ log) q n =
      apply_cond (eqb p q) empty_window (windows_of circle log q) n
      ∙ idle_case (eqb p q) (windows_of circle log q) (carried_since q log) n (windows_apart log q n)

module _ (circle : ℕ) (numbers : IsCircle circle) where
  -- what the rule finds, seen from newer requests on
  pub rows_answer : (r : Request) (newer : List ℕ) (ks : List Kept) → r.number < circle → AllBelow circle ks
      → kept_for (is_above circle) r newer ks ≡ cond (list_all (is_above circle r.number) newer) (reply_in r (window_of circle ks r.number)) None
  rows_answer r newer [] on all = none_either (list_all (is_above circle r.number) newer)
  rows_answer r newer (k ∷ ks) on all =
      let above = is_above circle in
      let next = rows_answer r (k.request.number ∷ newer) ks on all.1 in
      elim (cases_eq r.number k.request.number) [
        | inl same ↦
            let fails : (above r.number k.request.number && list_all (above r.number) newer) ≡ false = and_left _ _ (ap (above r.number) (sym same) ∙ numbers.never r.number) in
            let rest : kept_for above r (k.request.number ∷ newer) ks ≡ None = next ∙ ap (λ (t : Bool). cond t (reply_in r (window_of circle ks r.number)) None) fails in
            let row : window_of circle (k ∷ ks) r.number ≡ Some k = ap (λ (t : Bool). cond t (Some k) (cond (is_next circle k.request.number r.number) None (window_of circle ks r.number))) (eq-eqb r.number k.request.number same) in
            ap (λ (n : ℕ). cond (is_same r k.request && list_all (above n) newer) (Some k.reply) (kept_for above r (k.request.number ∷ newer) ks)) (sym same)
            ∙ at_row (list_all (above r.number) newer) (is_same r k.request) k.reply (kept_for above r (k.request.number ∷ newer) ks) rest
            ∙ ap (λ (o : Option Kept). cond (list_all (above r.number) newer) (reply_in r o) None) (sym row)
        | inr other ↦
            let differs : is_same r k.request ≡ false = false_from_ne_true _ (λ t. other (is_same-number r k.request t)) in
            let passes : (is_same r k.request && list_all (above k.request.number) newer) ≡ false = and_left _ _ differs in
            let row : window_of circle (k ∷ ks) r.number ≡ cond (not (above r.number k.request.number)) None (window_of circle ks r.number) =
            ap (λ (t : Bool). cond t (Some k) (cond (is_next circle k.request.number r.number) None (window_of circle ks r.number))) (ne_eqb r.number k.request.number other)
            ∙ ap (λ (t : Bool). let none : Option Kept = None in cond t none (window_of circle ks r.number)) (numbers.either r.number k.request.number on all.0 other) in
            ap (λ (t : Bool). cond t (Some k.reply) (kept_for above r (k.request.number ∷ newer) ks)) passes
            ∙ next
            ∙ past_row (above r.number k.request.number) (list_all (above r.number) newer) (reply_in r (window_of circle ks r.number)) (window_of circle ks r.number) r refl
            ∙ ap (λ (o : Option Kept). cond (list_all (above r.number) newer) (reply_in r o) None) (sym row)
      ]

  below_since : (log : List Entry) (q : ℕ) → AllOnCircle circle log → AllBelow circle (carried_since q log)
  below_since [] q all = tt
  below_since (Carried k ∷ log) q all =
      cond_both (eqb k.request.requester q) (k ∷ carried_since q log) (carried_since q log) (AllBelow circle) (λ _. (all.0, below_since log q all.1)) (λ _. below_since log q all.1)
  below_since (Idled p ∷ log) q all = cond_both (eqb p q) [] (carried_since q log) (AllBelow circle) (λ _. tt) (λ _. below_since log q all)

  pub rows_are_the_rule : RowsAreTheRule circle
  rows_are_the_rule r log on all =
      ap (λ (o : Option (List ℕ)). outcome_of o (is_busy r.requester log))
      (rows_answer r [] (carried_since r.requester log) on (below_since log r.requester all) ∙ ap (reply_in r) (sym (windows_apart circle log r.requester r.number)))

pub rows_64 : RowsAreTheRule 64
rows_64 = rows_are_the_rule 64 circle_64

pub rows_32 : RowsAreTheRule 32
rows_32 = rows_are_the_rule 32 circle_32
