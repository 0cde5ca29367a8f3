-- Which ids a word names.
use Rattle.std.specs.Prelude.{IfNone}
use Rattle.std.proofs.Common.{◌≡◌, ◌∙◌, ℕ, List, [], ◌∷◌, ◌++◌, Option, None, Some, inl, inr, sym, ap, subst}
use Rattle.std.proofs.lemmas.List.{append_assoc}
use Rattle.clap.specs.Words.{Text}
use Rattle.text_lines.specs.Cuts.{LacksByte, CutsAt}
use Rattle.text_lines.proofs.Cuts.{same_cut, not_lacking}
use Rattle.app_show.specs.declared.keys.IdRange.{IdRange}
use Rattle.bmcnet.specs.Ids.{IsBetween, IsIdRange, NamesRanges, NamesGiven, comma, dash}

-- ---- one range

uncut : (mark : ℕ) (word front back : Text) → CutsAt mark word front back → LacksByte mark word → ⊥
uncut mark word front back cut lacks = not_lacking mark front back (subst (LacksByte mark) cut.parts lacks)

one_between : (front back : Text) (range other : IdRange) → IsBetween front back range → IsBetween front back other → range ≡ other
one_between front back range other is also =
    let first : range.first ≡ other.first = is.first.value ∙ sym also.first.value in
    let last : range.last ≡ other.last = is.last.value ∙ sym also.last.value in
    λ i. record { first = first i; last = last i }

-- a word names one range at most
one_range : (word : Text) (range other : IdRange) → IsIdRange word range → IsIdRange word other → range ≡ other
one_range word range other (inl is) (inl also) = one_between word word range other is.1 also.1
one_range word range other (inl is) (inr also) = absurd (uncut dash word also.0 also.1 also.2 is.0)
one_range word range other (inr is) (inl also) = absurd (uncut dash word is.0 is.1 is.2 also.0)
one_range word range other (inr is) (inr also) =
    let same = same_cut dash is.0 is.1 also.0 also.1 (sym is.2.parts ∙ also.2.parts) is.2.first also.2.first in
    one_between is.0 is.1 range other is.3
    (subst (λ (w : Text). IsBetween w is.1 other) (sym same.0) (subst (λ (w : Text). IsBetween also.0 w other) (sym same.1) also.3))

-- a word with a dash names what stands around it
pub none_around : (word front back : Text) → CutsAt dash word front back → ((range : IdRange) → ¬ IsBetween front back range) → (range : IdRange) → ¬ IsIdRange word range
none_around word front back cut none range (inl is) = uncut dash word front back cut is.0
none_around word front back cut none range (inr is) =
    let same = same_cut dash front back is.0 is.1 (sym cut.parts ∙ is.2.parts) cut.first is.2.first in
    none range (subst (λ (w : Text). IsBetween w back range) (sym same.0) (subst (λ (w : Text). IsBetween is.0 w range) (sym same.1) is.3))

-- and one without a dash is one id
pub none_alone : (word : Text) → LacksByte dash word → ((range : IdRange) → ¬ IsBetween word word range) → (range : IdRange) → ¬ IsIdRange word range
none_alone word lacks none range (inl is) = none range is.1
none_alone word lacks none range (inr is) = uncut dash word is.0 is.1 is.2 lacks

pub unread_around : (word front back : Text) (read : Option IdRange) → CutsAt dash word front back → IfNone read ((range : IdRange) → ¬ IsBetween front back range)
    → IfNone read ((range : IdRange) → ¬ IsIdRange word range)
unread_around word front back None cut none = none_around word front back cut none
unread_around word front back (Some range) cut none = tt

pub unread_alone : (word : Text) (read : Option IdRange) → LacksByte dash word → IfNone read ((range : IdRange) → ¬ IsBetween word word range)
    → IfNone read ((range : IdRange) → ¬ IsIdRange word range)
unread_alone word None lacks none = none_alone word lacks none
unread_alone word (Some range) lacks none = tt

-- ---- one range behind another

-- What is left of a word behind these ranges: the word names these and others behind them exactly where what is left names the others.
pub record Left (word : Text) (ranges : List IdRange) (rest : Text) : Type 0 where
  pub to : (more : List IdRange) → NamesRanges rest more → NamesRanges word (ranges ++ more)
  pub from : (all : List IdRange) → NamesRanges word all → (more : List IdRange) × NamesRanges rest more × (all ≡ ranges ++ more)

module _ (word : Text) (ranges : List IdRange) (rest : Text) (left : Left word ranges rest) where
  module _ (first behind : Text) (cut : CutsAt comma rest first behind) where
    -- what stands before the comma names no range: so the word names none
    pub stuck : ((range : IdRange) → ¬ IsIdRange first range) → (all : List IdRange) → ¬ NamesRanges word all
    stuck none all names = by found.0 found.1
      where
        found : (more : List IdRange) × NamesRanges rest more × (all ≡ ranges ++ more)
        found = left.from all names

        by : (more : List IdRange) → NamesRanges rest more → ⊥
        by [] is = is
        by (r ∷ []) is = uncut comma rest first behind cut is.0
        by (r ∷ s ∷ rs) is =
            let same = same_cut comma first behind is.0 is.1 (sym cut.parts ∙ is.2.parts) cut.first is.2.first in
            none r (subst (λ (w : Text). IsIdRange w r) (sym same.0) is.3)

    module _ (range : IdRange) (is_range : IsIdRange first range) where
      one_more : (more : List IdRange) → NamesRanges behind more → NamesRanges rest (range ∷ more)
      one_more [] names = absurd names
      one_more (s ∷ rs) names = (first, behind, cut, is_range, names)

      first_is : (more : List IdRange) → NamesRanges rest more → (later : List IdRange) × NamesRanges behind later × (more ≡ range ∷ later)
      first_is [] is = absurd is
      first_is (r ∷ []) is = absurd (uncut comma rest first behind cut is.0)
      first_is (r ∷ s ∷ rs) is =
          let same = same_cut comma first behind is.0 is.1 (sym cut.parts ∙ is.2.parts) cut.first is.2.first in
          let alike : r ≡ range = one_range first r range (subst (λ (w : Text). IsIdRange w r) (sym same.0) is.3) is_range in
          (s ∷ rs, subst (λ (w : Text). NamesRanges w (s ∷ rs)) (sym same.1) is.4, ap (λ (n : IdRange). n ∷ s ∷ rs) alike)

      -- it names this range: what is left is what stands behind the comma
      pub left_behind : Left word (ranges ++ range ∷ []) behind
      left_behind = record {
        to = λ more names. subst (NamesRanges word) (sym (append_assoc ranges (range ∷ []) more)) (left.to (range ∷ more) (one_more more names));
        from = λ all names.
            let found = left.from all names in
            let split = first_is found.0 found.1 in
            (split.0, split.1, found.2 ∙ ap (λ (more : List IdRange). ranges ++ more) split.2 ∙ sym (append_assoc ranges (range ∷ []) split.0));
      }

  module _ (lacks : LacksByte comma rest) where
    -- what is left has no comma, and names no range: so the word names none
    pub stuck_at_end : ((range : IdRange) → ¬ IsIdRange rest range) → (all : List IdRange) → ¬ NamesRanges word all
    stuck_at_end none all names = by found.0 found.1
      where
        found : (more : List IdRange) × NamesRanges rest more × (all ≡ ranges ++ more)
        found = left.from all names

        by : (more : List IdRange) → NamesRanges rest more → ⊥
        by [] is = is
        by (r ∷ []) is = none r is.1
        by (r ∷ s ∷ rs) is = uncut comma rest is.0 is.1 is.2 lacks

-- ---- what is given

pub given_ids : (given : Option Text) (word : Text) (ranges : List IdRange) → given ≡ Some word → NamesRanges word ranges → NamesGiven given ranges
given_ids given word ranges is names = subst (λ (o : Option Text). NamesGiven o ranges) (sym is) names

pub none_asked : (given : Option Text) (ranges : List IdRange) → given ≡ None → ranges ≡ [] → NamesGiven given ranges
none_asked given ranges is none = subst (λ (o : Option Text). NamesGiven o ranges) (sym is) none

pub no_ids : (given : Option Text) (word : Text) → given ≡ Some word → ((ranges : List IdRange) → ¬ NamesRanges word ranges) → (ranges : List IdRange) → NamesGiven given ranges → ⊥
no_ids given word is none ranges names = none ranges (subst (λ (o : Option Text). NamesGiven o ranges) is names)
