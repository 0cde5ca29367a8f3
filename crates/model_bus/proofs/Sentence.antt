-- The rule for repeats is its sentence.
use Rattle.std.proofs.Common.{◌≡◌, ℕ, Bool, true, false, ◌&&◌, eqb, List, [], ◌∷◌, ◌++◌, length, Option, Some, None, refl, sym, ◌∙◌, ap, subst, inl, inr}
use Rattle.std.specs.List.{list_all}
use Rattle.std.proofs.lemmas.Bool.{and_parts, and_from, and_left, eqb-true, eq-eqb, ne_eqb, cond-true, cond-false, cases_eq, cases_Bool, true≢false, not-true, not_from_false, leb-true, le-leb, both_ways}
use Rattle.std.proofs.lemmas.Slice.Eq.{bytes_eq-Decides}
use Rattle.std.proofs.lemmas.Option.{same_Some, none-some}
use Rattle.model_bus.specs.Request.{Request, Kept, Entry, Carried, Idled, is_same, carried_since}
use Rattle.model_bus.specs.Carried.{kept_for, requesters, is_busy, Repeats, IsBusy, IsNew, outcome_of}
use Rattle.model_bus.specs.Numbering.{is_above}
use Rattle.model_bus.specs.Repeat.{AllBetween, IsRepeat, NeedsNinth, RuleIsSentence}
use Rattle.model_bus.proofs.NumberLaws.{circle_64, circle_32}
use Rattle.model_bus.proofs.Repeats.{is_same-same}
use Rattle.model_bus.proofs.Requesters.{has_carried, empty_list, is_some_list}

pub same_request : (r s : Request) → is_same r s ≡ true → r ≡ s
same_request r s h =
    let both = and_parts _ _ h in
    let heads = and_parts _ _ both.0 in
    ap (λ (x : ℕ). record { requester = x; number = r.number; bytes = r.bytes }) (eqb-true _ _ heads.0)
    ∙ ap (λ (x : ℕ). record { requester = s.requester; number = x; bytes = r.bytes }) (eqb-true _ _ heads.1)
    ∙ ap (λ (x : List ℕ). record { requester = s.requester; number = s.number; bytes = x }) ((bytes_eq-Decides r.bytes s.bytes).0 both.1)

module _ (above : ℕ → ℕ → Bool) (never : (x : ℕ) → above x x ≡ false) where
  -- an entry is put before what was found
  more : (r : Request) (e : Entry) (log : List Entry) (reply : List ℕ) → IsRepeat above r log reply → AllBetween above r (e ∷ []) → IsRepeat above r (e ∷ log) reply
  more r e log reply h between = record { newer = e ∷ h.newer; kept = h.kept; older = h.older; whole = ap (λ (l : List Entry). e ∷ l) h.whole; same = h.same; between = (between.0, h.between); replied = h.replied }

  found : (r : Request) (newer : List ℕ) (log : List Entry) (reply : List ℕ) → kept_for above r newer (carried_since r.requester log) ≡ Some reply
      → IsRepeat above r log reply × (list_all (above r.number) newer ≡ true)
  found r newer [] reply e = absurd (none-some reply e)
  found r newer (Idled p ∷ log) reply e =
      elim (cases_eq p r.requester) [
        | inl mine ↦ absurd (none-some reply (sym (ap (kept_for above r newer) (cond-true (eqb p r.requester) [] (carried_since r.requester log) (eq-eqb p r.requester mine))) ∙ e))
        | inr other ↦
            let next = found r newer log reply (sym (ap (kept_for above r newer) (cond-false (eqb p r.requester) [] (carried_since r.requester log) (ne_eqb p r.requester other))) ∙ e) in
            (more r (Idled p) log reply next.0 (other, tt), next.1)
      ]
  found r newer (Carried k ∷ log) reply e =
      let since = carried_since r.requester log in
      elim (cases_eq k.request.requester r.requester) [
        | inr other ↦
            let next = found r newer log reply (sym (ap (kept_for above r newer) (cond-false (eqb k.request.requester r.requester) (k ∷ since) since (ne_eqb k.request.requester r.requester other))) ∙ e) in
            (more r (Carried k) log reply next.0 ((λ mine. absurd (other mine)), tt), next.1)
        | inl mine ↦
            let here : kept_for above r newer (k ∷ since) ≡ Some reply = sym (ap (kept_for above r newer) (cond-true (eqb k.request.requester r.requester) (k ∷ since) since (eq-eqb k.request.requester r.requester mine))) ∙ e in
            elim (cases_Bool (is_same r k.request && list_all (above k.request.number) newer)) [
              | inl t ↦
                  let parts = and_parts _ _ t in
                  let same = same_request r k.request parts.0 in (
                    record { newer = []; kept = k; older = log; whole = refl; same = same; between = tt; replied = same_Some _ _ (sym (cond-true _ _ _ t) ∙ here) },
                    subst (λ (r : Request). list_all (above r.number) newer ≡ true) (sym same) parts.1,
                  )
              | inr f ↦
                  let next = found r (k.request.number ∷ newer) log reply (sym (cond-false _ _ _ f) ∙ here) in
                  let parts = and_parts (above r.number k.request.number) (list_all (above r.number) newer) next.1 in
                  (more r (Carried k) log reply next.0 ((λ _. parts.0), tt), parts.1)
            ]
      ]

  finds : (r : Request) (k : Kept) (older : List Entry) (front : List Entry) (newer : List ℕ)
      → r ≡ k.request → AllBetween above r front → list_all (above r.number) newer ≡ true → kept_for above r newer (carried_since r.requester (front ++ Carried k ∷ older)) ≡ Some k.reply
  finds r k older [] newer same between all =
      let since = carried_since r.requester older in
      let mine : k.request.requester ≡ r.requester = sym (ap (λ (s : Request). s.requester) same) in
      ap (kept_for above r newer) (cond-true (eqb k.request.requester r.requester) (k ∷ since) since (eq-eqb k.request.requester r.requester mine))
      ∙ cond-true _ _ _ (and_from _ _ (subst (λ (s : Request). is_same r s ≡ true) same (is_same-same r)) (subst (λ (s : Request). list_all (above s.number) newer ≡ true) same all))
  finds r k older (Idled p ∷ front) newer same between all =
      ap (kept_for above r newer) (cond-false (eqb p r.requester) [] (carried_since r.requester (front ++ Carried k ∷ older)) (ne_eqb p r.requester between.0))
      ∙ finds r k older front newer same between.1 all
  finds r k older (Carried f ∷ front) newer same between all =
      let since = carried_since r.requester (front ++ Carried k ∷ older) in
      elim (cases_eq f.request.requester r.requester) [
        | inr other ↦
            ap (kept_for above r newer) (cond-false (eqb f.request.requester r.requester) (f ∷ since) since (ne_eqb f.request.requester r.requester other))
            ∙ finds r k older front newer same between.1 all
        | inl mine ↦
            ap (kept_for above r newer) (cond-true (eqb f.request.requester r.requester) (f ∷ since) since (eq-eqb f.request.requester r.requester mine))
            ∙ elim (cases_Bool (is_same r f.request)) [
              | inl t ↦ absurd (true≢false (sym (between.0 mine) ∙ ap (λ (s : Request). above r.number s.number) (sym (same_request r f.request t)) ∙ never r.number))
              | inr no_match ↦ cond-false _ _ _ (and_left _ _ no_match) ∙ finds r k older front (f.request.number ∷ newer) same between.1 (and_from _ _ (between.0 mine) all)
            ]
      ]

  abbrev kept_of : Request → List Entry → Option (List ℕ)
  kept_of r log = kept_for above r [] (carried_since r.requester log)

  repeat_found : (r : Request) (log : List Entry) (reply : List ℕ) → IsRepeat above r log reply → kept_of r log ≡ Some reply
  repeat_found r log reply h =
      ap (kept_of r) h.whole ∙ finds r h.kept h.older h.newer [] h.same h.between refl ∙ ap (λ (x : List ℕ). Some x) h.replied

  none_repeats : (r : Request) (log : List Entry) (o : Option (List ℕ)) → kept_of r log ≡ o → ((reply : List ℕ) → ¬ (IsRepeat above r log reply)) → o ≡ None
  none_repeats r log None e never_one = refl
  none_repeats r log (Some reply) e never_one = absurd (never_one reply (found r [] log reply e).0)

  not_repeated : (r : Request) (log : List Entry) → kept_of r log ≡ None → (reply : List ℕ) → ¬ (IsRepeat above r log reply)
  not_repeated r log e reply h = none-some reply (sym e ∙ repeat_found r log reply h)

-- what an outcome tells
given_repeats : (o : Option (List ℕ)) (busy : Bool) (reply : List ℕ) → outcome_of o busy ≡ Repeats reply → o ≡ Some reply
given_repeats (Some x) busy reply e = cc
given_repeats None true reply e = cc
given_repeats None false reply e = cc

given_busy : (o : Option (List ℕ)) (busy : Bool) → outcome_of o busy ≡ IsBusy → (o ≡ None) × (busy ≡ true)
given_busy (Some x) busy e = cc
given_busy None true e = (refl, refl)
given_busy None false e = cc

given_new : (o : Option (List ℕ)) (busy : Bool) → outcome_of o busy ≡ IsNew → (o ≡ None) × (busy ≡ false)
given_new (Some x) busy e = cc
given_new None true e = cc
given_new None false e = (refl, refl)

-- busy is the need of a ninth window
ninth_of : (q : ℕ) (log : List Entry) → is_busy q log ≡ true → NeedsNinth q log
ninth_of q log t =
    let parts = and_parts _ _ t in
    record {
      nothing = empty_list (carried_since q log) (sym (has_carried q log) ∙ not-true _ parts.0);
      full = leb-true 8 (length (requesters log)) parts.1;
    }

busy_of : (q : ℕ) (log : List Entry) → NeedsNinth q log → is_busy q log ≡ true
busy_of q log h = and_from _ _ (not_from_false _ (has_carried q log ∙ ap is_some_list h.nothing)) (le-leb 8 (length (requesters log)) h.full)

not_busy_of : (q : ℕ) (log : List Entry) (t : Bool) → is_busy q log ≡ t → (¬ (NeedsNinth q log)) → t ≡ false
not_busy_of q log true e fits = absurd (fits (ninth_of q log e))
not_busy_of q log false e fits = refl

pub rule_is_sentence : (above : ℕ → ℕ → Bool) → ((x : ℕ) → above x x ≡ false) → RuleIsSentence above
rule_is_sentence above never = record {
  repeats = λ r log reply. (
    (λ e. (found above never r [] log reply (given_repeats _ _ reply e)).0),
    λ h. ap (λ (o : Option (List ℕ)). outcome_of o (is_busy r.requester log)) (repeat_found above never r log reply h),
  );
  busy = λ r log. (
    (λ e. let given = given_busy _ _ e in (not_repeated above never r log given.0, ninth_of r.requester log given.1)),
    λ h. ap (λ (o : Option (List ℕ)). outcome_of o (is_busy r.requester log)) (none_repeats above never r log _ refl h.0) ∙ ap (outcome_of None) (busy_of r.requester log h.1),
  );
  new = λ r log. (
    (λ e. let given = given_new _ _ e in (not_repeated above never r log given.0, λ ninth. both_ways _ given.1 (busy_of r.requester log ninth))),
    λ h. ap (λ (o : Option (List ℕ)). outcome_of o (is_busy r.requester log)) (none_repeats above never r log _ refl h.0) ∙ ap (outcome_of None) (not_busy_of r.requester log _ refl h.1),
  );
}

pub sentence_64 : RuleIsSentence (is_above 64)
sentence_64 = rule_is_sentence (is_above 64) circle_64.never

pub sentence_32 : RuleIsSentence (is_above 32)
sentence_32 = rule_is_sentence (is_above 32) circle_32.never
