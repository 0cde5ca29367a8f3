-- Turns that are counted, one after another.
use Rattle.std.proofs.Common.{◌≡◌, ◌+◌, ◌++◌, ◌∙◌, refl, inl, inr, sym, ap, subst, ℕ, List, [], ◌∷◌, length, min, Some, None, arith}
use Rattle.std.proofs.lemmas.List.{append_assoc, append-nil, length-append}
use Rattle.bmc_ports.specs.Since.{CountsOn, Hearing, NoneHeard, most_turns}

capped_both : (many more total first last : ℕ) → total ≡ many + more → first ≡ min many most_turns → last ≡ min (first + more) most_turns
    → last ≡ min total most_turns
capped_both many more total first last is one two = grind arith

module _ (IsOne : List ℕ → Type 0) where
  none_both : (first later : List Hearing) → NoneHeard IsOne first → NoneHeard IsOne later → NoneHeard IsOne (first ++ later)
  none_both [] later none then = then
  none_both (None ∷ first) later none then = none_both first later none then
  none_both (Some frame ∷ first) later none then = (none.0, none_both first later none.1 then)

  -- one of the sort was heard
  pub counts_anew : (before : ℕ) (frame : List ℕ) → IsOne frame → CountsOn IsOne before (Some frame ∷ []) 0
  unfolding CountsOn
  counts_anew before frame is = inr ([], frame, [], refl, is, tt, refl)

  -- another was heard
  pub counts_other : (before after : ℕ) (frame : List ℕ) → ¬ IsOne frame → after ≡ min (before + 1) most_turns
      → CountsOn IsOne before (Some frame ∷ []) after
  unfolding CountsOn
  counts_other before after frame other is = inl ((other, tt), is)

  -- none was heard
  pub counts_quiet : (before after : ℕ) → after ≡ min (before + 1) most_turns → CountsOn IsOne before (None ∷ []) after
  unfolding CountsOn
  counts_quiet before after is = inl (tt, is)

  -- no turn was made
  pub counts_still : (count : ℕ) → CountsOn IsOne count [] count
  unfolding CountsOn
  counts_still count = refl

  -- turns, and then others
  pub counts_both : (before mid after : ℕ) (first later : List Hearing) → CountsOn IsOne before first mid → CountsOn IsOne mid later after
      → CountsOn IsOne before (first ++ later) after
  unfolding CountsOn
  counts_both before mid after [] later still then = subst (λ (n : ℕ). CountsOn IsOne n later after) still then
  counts_both before mid after (one ∷ first) [] begins still =
      subst (λ (n : ℕ). CountsOn IsOne before (one ∷ (first ++ [])) n) (sym still)
      (subst (λ (xs : List Hearing). CountsOn IsOne before (one ∷ xs) mid) (sym (append-nil first)) begins)
  counts_both before mid after (one ∷ first) (two ∷ later) begins (inr (front, frame, back, is, found, none, count)) =
      inr (
        (one ∷ first) ++ front,
        frame,
        back,
        ap (λ xs. (one ∷ first) ++ xs) is ∙ sym (append_assoc (one ∷ first) front (Some frame ∷ back)),
        found,
        none,
        count,
      )
  counts_both before mid after (one ∷ first) (two ∷ later) (inl (none, count)) (inl (then, counted)) =
      let all : ℕ = before + length ((one ∷ first) ++ two ∷ later) in
      let both : all ≡ (before + length (one ∷ first)) + length (two ∷ later) = omega (arith, length-append (one ∷ first) (two ∷ later)) in
      inl (
        none_both (one ∷ first) (two ∷ later) none then,
        capped_both (before + length (one ∷ first)) (length (two ∷ later)) all mid after both count counted,
      )
  counts_both before mid after (one ∷ first) (two ∷ later) (inr (front, frame, back, is, found, none, count)) (inl (then, counted)) =
      inr (
        front,
        frame,
        back ++ two ∷ later,
        ap (λ xs. xs ++ two ∷ later) is ∙ append_assoc front (Some frame ∷ back) (two ∷ later),
        found,
        none_both back (two ∷ later) none then,
        capped_both (length back) (length (two ∷ later)) (length (back ++ two ∷ later)) mid after (length-append back (two ∷ later)) count
            counted,
      )
