-- What a port did decides here what comes of a request as it does in the model of a bus.
use Rattle.std.proofs.Common.{◌≡◌, ℕ, Bool, true, false, not, ◌&&◌, cond, List, [], ◌∷◌, Option, Some, None, refl, sym, ◌∙◌, ap, arith}
use Rattle.std.specs.Prelude.{◌==◌, filter}
use Rattle.std.specs.Option.{option_map}
use Rattle.std.specs.List.{list_all, list_any}
use Rattle.std.specs.Str.{bytes_eq}
use Rattle.std.proofs.lemmas.Bool.Decides.{nat_tests}
use Rattle.std.proofs.lemmas.Slice.Eq.{bytes_eq-Decides}
use Rattle.two_wire.specs.declared.Bus.{Bus}
use Rattle.record_base.specs.declared.message.Answered.{Answered}
use Rattle.model_bus.specs.Request as bus
use Rattle.model_bus.specs.Carried as bus_rule
use Rattle.model_headline.specs.Lab.{Heard, Entry, Carried, Idled, is_above, repeated, requesters, is_ninth}
use Rattle.model_headline.specs.Seen.{bare, seen_log}

module _ (spell : List ℕ → Answered → List ℕ) where
  -- the reply that is kept for a request
  pub repeats_alike : (on : Bus) (r : Heard) (newer : List ℕ) (log : List Entry)
      → bus_rule.kept_for (is_above on) (bare r) newer (bus.carried_since r.requester (seen_log spell log)) ≡ option_map (spell r.bytes) (repeated on r newer log)
  repeats_alike on r newer [] = refl
  repeats_alike on r newer (Carried s a ∷ log) = at (s.requester == r.requester) refl (λ more. repeats_alike on r more log)
    where
      kept : bus.Kept
      kept = record { request = bare s; reply = spell s.bytes a }

      older : List bus.Kept
      older = bus.carried_since r.requester (seen_log spell log)

      same_asker : (r.requester == s.requester) ≡ (s.requester == r.requester)
      same_asker = grind (arith, nat_tests)

      found : (p q c : Bool) → (q ≡ true → s.bytes ≡ r.bytes) → bus_rule.kept_for (is_above on) (bare r) (s.number ∷ newer) older ≡ option_map (spell r.bytes) (repeated on r (s.number ∷ newer) log)
          → cond (((true && p) && q) && c) (Some kept.reply) (bus_rule.kept_for (is_above on) (bare r) (s.number ∷ newer) older) ≡ option_map (spell r.bytes) (cond (p && q && c) (Some a) (repeated on r (s.number ∷ newer) log))
      found true true true same rest = ap (λ (bytes : List ℕ). Some (spell bytes a)) (same refl)
      found true true false same rest = rest
      found true false c same rest = rest
      found false q c same rest = rest

      at : (b : Bool) → (s.requester == r.requester) ≡ b → ((more : List ℕ) → bus_rule.kept_for (is_above on) (bare r) more older ≡ option_map (spell r.bytes) (repeated on r more log))
          → bus_rule.kept_for (is_above on) (bare r) newer (cond b (kept ∷ older) older)
          ≡ option_map (spell r.bytes) (cond (not b) (repeated on r newer log) (cond (r.number == s.number && bytes_eq r.bytes s.bytes && list_all (is_above on s.number) newer) (Some a) (repeated on r (s.number ∷ newer) log)))
      at true e rest =
          (λ i. cond ((((same_asker ∙ e) i && (r.number == s.number)) && bytes_eq r.bytes s.bytes) && list_all (is_above on s.number) newer) (Some kept.reply) (bus_rule.kept_for (is_above on) (bare r) (s.number ∷ newer) older))
          ∙ found (r.number == s.number) (bytes_eq r.bytes s.bytes) (list_all (is_above on s.number) newer) (λ h. sym ((bytes_eq-Decides r.bytes s.bytes).0 h)) (rest (s.number ∷ newer))
      at false e rest = rest newer
  repeats_alike on r newer (Idled q ∷ log) = at (q == r.requester) (repeats_alike on r newer log)
    where
      at : (b : Bool) → bus_rule.kept_for (is_above on) (bare r) newer (bus.carried_since r.requester (seen_log spell log)) ≡ option_map (spell r.bytes) (repeated on r newer log)
          → bus_rule.kept_for (is_above on) (bare r) newer (let none : List bus.Kept = [] in cond b none (bus.carried_since r.requester (seen_log spell log))) ≡ option_map (spell r.bytes) (let none : Option Answered = None in cond b none (repeated on r newer log))
      at true rest = refl
      at false rest = rest

  -- the requesters that have windows
  pub requesters_alike : (log : List Entry) → bus_rule.requesters (seen_log spell log) ≡ requesters log
  requesters_alike [] = refl
  requesters_alike (Carried r a ∷ log) = ap (λ (known : List ℕ). cond (list_any (λ q. q == r.requester) known) known (r.requester ∷ known)) (requesters_alike log)
  requesters_alike (Idled p ∷ log) = ap (filter (λ q. not (q == p))) (requesters_alike log)

  pub busy_alike : (q : ℕ) (log : List Entry) → bus_rule.is_busy q (seen_log spell log) ≡ is_ninth q (requesters log)
  busy_alike q log = ap (is_ninth q) (requesters_alike log)
