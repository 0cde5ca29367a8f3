-- Which places a word names.
use Rattle.std.proofs.Common.{◌≡◌, ℕ, ◌<◌, ◌≤◌, ◌^◌, List, [], ◌∷◌, ◌++◌, sym, ◌∙◌, ap, subst, arith}
use Rattle.std.proofs.lemmas.List.{append_assoc}
use Rattle.std.specs.Fmt.{decimal}
use Rattle.std.proofs.lemmas.Fmt.{decimal_injective}
use Rattle.clap.specs.Words.{Text}
use Rattle.text_lines.specs.Cuts.{LacksByte, CutsAt}
use Rattle.text_lines.proofs.Cuts.{same_cut, not_lacking}
use Rattle.app_bmclab.specs.Places.{comma, IsPlaceAbove, NamesAbove}

-- a word names one place at most
pub one_place : (low : ℕ) (word : Text) (place other : ℕ) → IsPlaceAbove low word place → IsPlaceAbove low word other → place ≡ other
one_place low word place other is also =
    let small = is.small in
    let less = also.small in
    decimal_injective place other (omega (arith, small)) (omega (arith, less)) (sym is.spelt ∙ also.spelt)

uncut : (word first rest : Text) → CutsAt comma word first rest → LacksByte comma word → ⊥
uncut word first rest cut lacks = not_lacking comma first rest (subst (LacksByte comma) cut.parts lacks)

-- What is left of a word behind these places, the last of which is `low`: the word names these and others behind them exactly where what is left
-- names the others.
pub record Left (word : Text) (places : List ℕ) (low : ℕ) (rest : Text) : Type 0 where
  pub to : (more : List ℕ) → NamesAbove low rest more → NamesAbove 0 word (places ++ more)
  pub from : (all : List ℕ) → NamesAbove 0 word all → (more : List ℕ) × NamesAbove low rest more × (all ≡ places ++ more)

module _ (word : Text) (places : List ℕ) (low : ℕ) (rest : Text) (left : Left word places low rest) where
  module _ (first behind : Text) (cut : CutsAt comma rest first behind) where
    -- what stands before the comma names no place: so the word names none
    pub stuck : ((place : ℕ) → ¬ IsPlaceAbove low first place) → (all : List ℕ) → ¬ NamesAbove 0 word all
    stuck none all names = by found.0 found.1
      where
        found : (more : List ℕ) × NamesAbove low rest more × (all ≡ places ++ more)
        found = left.from all names

        by : (more : List ℕ) → NamesAbove low rest more → ⊥
        by [] is = is
        by (p ∷ []) is = uncut rest first behind cut is.0
        by (p ∷ q ∷ ps) is =
            let same = same_cut comma first behind is.0 is.1 (sym cut.parts ∙ is.2.parts) cut.first is.2.first in
            none p (subst (λ (w : Text). IsPlaceAbove low w p) (sym same.0) is.3)

    module _ (place : ℕ) (is_place : IsPlaceAbove low first place) where
      one_more : (more : List ℕ) → NamesAbove place behind more → NamesAbove low rest (place ∷ more)
      one_more [] names = absurd names
      one_more (q ∷ ps) names = (first, behind, cut, is_place, names)

      first_is : (more : List ℕ) → NamesAbove low rest more → (later : List ℕ) × NamesAbove place behind later × (more ≡ place ∷ later)
      first_is [] is = absurd is
      first_is (p ∷ []) is = absurd (uncut rest first behind cut is.0)
      first_is (p ∷ q ∷ ps) is =
          let same = same_cut comma first behind is.0 is.1 (sym cut.parts ∙ is.2.parts) cut.first is.2.first in
          let alike : p ≡ place = one_place low first p place (subst (λ (w : Text). IsPlaceAbove low w p) (sym same.0) is.3) is_place in
          (q ∷ ps, subst (λ (n : ℕ). NamesAbove n behind (q ∷ ps)) alike (subst (λ (w : Text). NamesAbove p w (q ∷ ps)) (sym same.1) is.4), ap (λ (n : ℕ). n ∷ q ∷ ps) alike)

      -- it names this place: what is left is what stands behind the comma
      pub left_behind : Left word (places ++ place ∷ []) place behind
      left_behind = record {
        to = λ more names. subst (NamesAbove 0 word) (sym (append_assoc places (place ∷ []) more)) (left.to (place ∷ more) (one_more more names));
        from = λ all names.
            let found = left.from all names in
            let split = first_is found.0 found.1 in
            (split.0, split.1, found.2 ∙ ap (λ (more : List ℕ). places ++ more) split.2 ∙ sym (append_assoc places (place ∷ []) split.0));
      }

  module _ (lacks : LacksByte comma rest) where
    -- what is left has no comma, and names no place: so the word names none
    pub stuck_at_end : ((place : ℕ) → ¬ IsPlaceAbove low rest place) → (all : List ℕ) → ¬ NamesAbove 0 word all
    stuck_at_end none all names = by found.0 found.1
      where
        found : (more : List ℕ) × NamesAbove low rest more × (all ≡ places ++ more)
        found = left.from all names

        by : (more : List ℕ) → NamesAbove low rest more → ⊥
        by [] is = is
        by (p ∷ []) is = none p is.1
        by (p ∷ q ∷ ps) is = uncut rest is.0 is.1 is.2 lacks

-- a word that is a number which isn't above names no place
pub none_above : (low : ℕ) (word : Text) (number : ℕ) → number < 2 ^ 32 → word ≡ decimal number → number ≤ low → (place : ℕ) → ¬ IsPlaceAbove low word place
none_above low word number small spelt most place is =
    let less = is.small in
    let above = is.above in
    let same : number ≡ place = decimal_injective number place (omega (arith, small)) (omega (arith, less)) (sym spelt ∙ is.spelt) in
    omega (arith, same, most, above)
