-- Where a text is cut.
use Rattle.std.proofs.Common.{◌≡◌, ◌≢◌, ℕ, ◌<◌, suc, List, [], ◌∷◌, ◌++◌, length, get_or, arith, refl, Option, Some, None, IfSome, IfNone}
use denote.Ref.{Bor}
use Rattle.std.proofs.lemmas.Str.Pattern.{IsSplitOnceResult, split_parts}
use Rattle.text_lines.specs.Cuts.{LacksByte, CutsAt}

-- a list that has the mark at no place lacks it
pub lacks_by_index : (mark : ℕ) (bytes : List ℕ) → ((i : ℕ) → i < length bytes → get_or bytes i 0 ≢ mark) → LacksByte mark bytes
lacks_by_index mark [] h = tt
lacks_by_index mark (b ∷ bytes) h = (h 0 (omega arith), lacks_by_index mark bytes (λ i l. h (suc i) (omega arith)))

-- the first mark is at one place
pub same_cut : (mark : ℕ) (front back before after : List ℕ) → front ++ mark ∷ back ≡ before ++ mark ∷ after → LacksByte mark front → LacksByte mark before → (front ≡ before) × (back ≡ after)
same_cut mark [] back [] after e l m = (refl, cc e)
same_cut mark [] back (b ∷ before) after e l m = absurd (m.0 (cc e))
same_cut mark (f ∷ front) back [] after e l m = absurd (l.0 (cc e))
same_cut mark (f ∷ front) back (b ∷ before) after e l m =
    let rest : front ++ mark ∷ back ≡ before ++ mark ∷ after = cc e in
    let same = same_cut mark front back before after rest l.1 m.1 in
    let head : f ≡ b = cc e in
    ((cc (head, same.0)), same.1)

-- a list with a mark doesn't lack it
pub not_lacking : (mark : ℕ) (front back : List ℕ) → LacksByte mark (front ++ mark ∷ back) → ⊥
not_lacking mark [] back h = h.0 refl
not_lacking mark (f ∷ front) back h = not_lacking mark front back h.1

-- what `split_once` gives at a mark that is ASCII
pub cuts : (mark : ℕ) (text : List ℕ) (r : Option (Bor (List ℕ) × Bor (List ℕ))) → IsSplitOnceResult mark text r → mark < 128
    → IfSome r (λ x. CutsAt mark text x.0.now x.1.now) × IfNone r (LacksByte mark text)
cuts mark text (Some x) h low =
    let parts = split_parts mark text (Some x) h low in
    (record { parts = parts.0; first = lacks_by_index mark x.0.now parts.1 }, tt)
cuts mark text None h low = (tt, lacks_by_index mark text (split_parts mark text None h low))
