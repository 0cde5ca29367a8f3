-- Eight windows are enough for what the rule lets in.
use Rattle.std.proofs.Common.{◌≡◌, ℕ, ◌≤◌, Bool, true, false, not, eqb, leb, List, [], ◌∷◌, length, Option, Some, None, arith, inl, inr, refl}
use Rattle.std.specs.Prelude.{filter, ◌==◌}
use Rattle.std.specs.List.{list_any}
use Rattle.std.proofs.lemmas.Bool.{cond_both, and_cases, leb-false, not-false, both_ways}
use Rattle.model_bus.specs.Request.{Kept, Entry, carried_since}
use Rattle.model_bus.specs.Carried.{kept_for, requesters, is_busy, outcome_of, log_after, HeardRequest, HeardIdle}
use Rattle.model_bus.specs.Repeat.{EightSuffice}

pub fewer : (p : ℕ) (qs : List ℕ) → length (filter (λ q. not (q == p)) qs) ≤ length qs
fewer p [] = omega arith
fewer p (x ∷ xs) =
    let rest = fewer p xs in
    cond_both (not (eqb x p)) (x ∷ filter (λ q. not (q == p)) xs) (filter (λ q. not (q == p)) xs) (λ l. length l ≤ length (x ∷ xs)) (λ _. omega arith) (λ _. omega arith)

carried_fits : (k : Kept) (log : List Entry) (o : Option (List ℕ)) (busy : Bool) → is_busy k.request.requester log ≡ busy → length (requesters log) ≤ 8 → length (requesters (log_after (outcome_of o busy) k log)) ≤ 8
carried_fits k log (Some reply) busy is few = few
carried_fits k log None true is few = few
carried_fits k log None false is few =
    cond_both (list_any (λ q. q == k.request.requester) (requesters log)) (requesters log) (k.request.requester ∷ requesters log) (λ l. length l ≤ 8)
    (λ _. few)
    (λ absent. elim (and_cases (not (list_any (λ p. p == k.request.requester) (requesters log))) (leb 8 (length (requesters log))) is) [
      | inl present ↦ absurd (both_ways _ absent (not-false _ present))
      | inr room ↦ let less = leb-false 8 (length (requesters log)) room in omega arith
    ])

pub eight_suffice : (above : ℕ → ℕ → Bool) → EightSuffice above
eight_suffice above (HeardRequest k) log few = carried_fits k log (kept_for above k.request [] (carried_since k.request.requester log)) (is_busy k.request.requester log) refl few
eight_suffice above (HeardIdle q) log few = let less = fewer q (requesters log) in omega arith
