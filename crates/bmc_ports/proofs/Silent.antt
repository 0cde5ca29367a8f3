-- What one turn adds to each requester's turns of silence, and who is forgotten by it.
use Rattle.std.specs.Prelude.{◌↔◌, ◌==◌, Bool, true, false}
use Rattle.std.specs.List.{filter, range_with_len}
use Rattle.std.proofs.Common.{◌≡◌, ◌≢◌, ◌<◌, ◌+◌, ◌++◌, ◌∙◌, ◌⊎◌, inl, inr, ℕ, List, [], ◌∷◌, min, Option, Some, None, refl, sym, ap, subst}
use Rattle.std.proofs.Common.{cond, arith}
use Rattle.std.proofs.Math.Dec.{eqb}
use Rattle.std.proofs.lemmas.Bool.Decides.{eqb_tells}
use Rattle.std.proofs.lemmas.List.{map-id}
use Rattle.std.proofs.lemmas.List.FromFn.{filter_of_map_range_with_len_more}
use Rattle.two_wire.specs.declared.Bus.{Bus}
use Rattle.bmc_core.specs.PortSteps.{PortState, idles}
use Rattle.bmc_ports.specs.declared.silence.Silence.{Silence}
use Rattle.bmc_ports.specs.Since.{CountsOn, Hearing, most_turns}
use Rattle.bmc_ports.specs.Senders.{IsFrom, IsHeardFrom}
use Rattle.model_bus.specs.Request.{requester_bytes}
use Rattle.bmc_ports.specs.Silence.{CountsAll, idles_all, silent_among, silent_turns}
use Rattle.bmc_ports.proofs.Since.{counts_anew, counts_other, counts_quiet}

module _ (on : Bus) (who before after : ℕ) where
  -- a frame came from the requester
  came : (heard : Hearing) → IsHeardFrom on who heard → after ≡ 0 → CountsOn (IsFrom on who) before (heard ∷ []) after
  came None from none = absurd from
  came (Some frame) from none =
      subst (λ (n : ℕ). CountsOn (IsFrom on who) before (Some frame ∷ []) n) (sym none) (counts_anew (IsFrom on who) before frame from)

  -- none did
  stayed_away : (heard : Hearing) → ¬ IsHeardFrom on who heard → after ≡ min (before + 1) most_turns
      → CountsOn (IsFrom on who) before (heard ∷ []) after
  stayed_away None away more = counts_quiet (IsFrom on who) before after more
  stayed_away (Some frame) away more = counts_other (IsFrom on who) before after frame away more

module _ (on : Bus) (heard : Hearing) (before mid after : Silence)
    (more : (who : ℕ) → who < requester_bytes → silent_turns mid who ≡ min (silent_turns before who + 1) most_turns) where
  -- nobody's frame came
  pub counts_nobody : ((who : ℕ) → (let none : Option ℕ = None in none ≡ Some who) ↔ IsHeardFrom on who heard) → CountsAll on before (heard ∷ []) mid
  counts_nobody nobody who within =
      stayed_away on who (silent_turns before who) (silent_turns mid who) heard (λ came. let bad = (nobody who).1 came in cc bad) (more who within)

  -- one requester's did
  pub counts_one : (from : ℕ) → ((who : ℕ) → (Some from ≡ Some who) ↔ IsHeardFrom on who heard)
      → silent_turns after from ≡ 0 → ((who : ℕ) → who ≢ from → silent_turns after who ≡ silent_turns mid who)
      → CountsAll on before (heard ∷ []) after
  counts_one from one cleared others who within = by (eqb_tells who from)
    where
      by : ((eqb who from ≡ true) × (who ≡ from)) ⊎ ((eqb who from ≡ false) × (who ≢ from))
          → CountsOn (IsFrom on who) (silent_turns before who) (heard ∷ []) (silent_turns after who)
      by (inl (is, same)) =
          came on who (silent_turns before who) (silent_turns after who) heard ((one who).0 (ap Some (sym same)))
          (ap (silent_turns after) same ∙ cleared)
      by (inr (is, other)) =
          stayed_away on who (silent_turns before who) (silent_turns after who) heard
          (λ came. let same : Some from ≡ Some who = (one who).1 came in other (cc same))
          (others who other ∙ more who within)

-- ---- who is forgotten

-- one more of them was silent for just so many turns, or wasn't
among_more : (first turns : ℕ) (silence : Silence)
    → silent_among (first + 1) turns silence ≡ silent_among first turns silence ++ cond (silent_turns silence first == turns) (first ∷ []) []
unfolding silent_among
among_more first turns silence =
    let test : ℕ → Bool = λ who. silent_turns silence who == turns in
    ap (filter test) (sym (map-id (range_with_len 0 (first + 1))))
    ∙ filter_of_map_range_with_len_more test (λ who. who) 0 first first (omega arith)
    ∙ ap (λ xs. filter test xs ++ cond (test first) (first ∷ []) []) (map-id (range_with_len 0 first))

-- none of none was
pub among_none : (turns : ℕ) (silence : Silence) → silent_among 0 turns silence ≡ []
unfolding silent_among
among_none turns silence = refl

-- requesters are forgotten, and then one more is or isn't
idles_more : (test : Bool) (who : ℕ) (gone : List ℕ) (p : PortState)
    → idles_all (gone ++ cond test (who ∷ []) []) p ≡ cond test (idles who (idles_all gone p)) (idles_all gone p)
idles_more true who [] p = refl
idles_more false who [] p = refl
idles_more test who (one ∷ gone) p = idles_more test who gone (idles one p)

-- one more is forgotten that was silent for just so many turns
pub forgets_more : (first turns : ℕ) (silence : Silence) (p : PortState) → let gone = idles_all (silent_among first turns silence) p in
    idles_all (silent_among (first + 1) turns silence) p ≡ cond (silent_turns silence first == turns) (idles first gone) gone
forgets_more first turns silence p =
    ap (λ xs. idles_all xs p) (among_more first turns silence)
    ∙ idles_more (silent_turns silence first == turns) first (silent_among first turns silence) p
