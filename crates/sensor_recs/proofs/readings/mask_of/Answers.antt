use Rattle.std.proofs.Common.{◌≡◌, ◌+◌, ◌*◌, ◌<◌, ◌≤◌, ℕ, List, [], ◌∷◌, length, get_or, Bool, true, false, if◌then◌else◌, refl, arith, rules}
use mir.Val.{bool_byte}
use Rattle.sensor_recs.specs.Taken.{mask_of}
use Rattle.sensor_recs.proofs.readings.mask_of.Goals as goal

is_small : (b : Bool) (n : ℕ) → n ≡ bool_byte b → n ≤ 1
is_small true n is = omega (arith, is)
is_small false n is = omega (arith, is)

is_bit : (b : Bool) → bool_byte b ≡ (if b then 1 else 0)
is_bit true = refl
is_bit false = refl

below : (a b c d e f : ℕ) → a ≤ 1 → b ≤ 1 → c ≤ 1 → d ≤ 1 → e ≤ 1 → f ≤ 1 → a + 2 * (b + 2 * (c + 2 * (d + 2 * (e + 2 * f)))) < 64
below a b c d e f ha hb hc hd he hf = omega arith

-- six bits make the mask of their list
makes : (xs : List Bool) (a b c d e f : ℕ) → length xs ≡ 6 → a ≡ bool_byte (get_or xs 0 false) → b ≡ bool_byte (get_or xs 1 false) → c ≡ bool_byte (get_or xs 2 false) → d ≡ bool_byte (get_or xs 3 false) → e ≡ bool_byte (get_or xs 4 false) → f ≡ bool_byte (get_or xs 5 false)
    → a + 2 * (b + 2 * (c + 2 * (d + 2 * (e + 2 * f)))) ≡ mask_of xs
makes (x0 ∷ x1 ∷ x2 ∷ x3 ∷ x4 ∷ x5 ∷ []) a b c d e f six ha hb hc hd he hf = omega (arith, ha, hb, hc, hd, he, hf, is_bit x0, is_bit x1, is_bit x2, is_bit x3, is_bit x4, is_bit x5)
makes [] a b c d e f six ha hb hc hd he hf = absurd (omega arith)
makes (x0 ∷ []) a b c d e f six ha hb hc hd he hf = absurd (omega arith)
makes (x0 ∷ x1 ∷ []) a b c d e f six ha hb hc hd he hf = absurd (omega arith)
makes (x0 ∷ x1 ∷ x2 ∷ []) a b c d e f six ha hb hc hd he hf = absurd (omega arith)
makes (x0 ∷ x1 ∷ x2 ∷ x3 ∷ []) a b c d e f six ha hb hc hd he hf = absurd (omega arith)
makes (x0 ∷ x1 ∷ x2 ∷ x3 ∷ x4 ∷ []) a b c d e f six ha hb hc hd he hf = absurd (omega arith)
makes (x0 ∷ x1 ∷ x2 ∷ x3 ∷ x4 ∷ x5 ∷ x6 ∷ xs) a b c d e f six ha hb hc hd he hf = absurd (omega arith)

pub returns : goal.returns
returns c = record {
  value = makes c.args.beyond.now c.from-4.result c.from-5.result c.from-6.result c.from.result c.from-2.result c.from-3.result (search rules) c.from-4.ensures c.from-5.ensures c.from-6.ensures c.from.ensures c.from-2.ensures c.from-3.ensures;
  small = below c.from-4.result c.from-5.result c.from-6.result c.from.result c.from-2.result c.from-3.result (is_small _ _ c.from-4.ensures) (is_small _ _ c.from-5.ensures) (is_small _ _ c.from-6.ensures) (is_small _ _ c.from.ensures)
      (is_small _ _ c.from-2.ensures) (is_small _ _ c.from-3.ensures);
}
