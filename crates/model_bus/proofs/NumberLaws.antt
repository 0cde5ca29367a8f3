-- What the two numberings have in common.
use Rattle.std.proofs.Common.{◌≡◌, ◌≢◌, ℕ, ◌+◌, ◌-◌, ◌%◌, ◌<◌, ◌≤◌, suc, true, false, not, inl, inr, arith, sym, ◌∙◌, ap}
use Rattle.std.proofs.lemmas.Bool.{and_from, and_parts, and_left, and_right, ltb-true, lt-ltb, le-ltb, le-leb, lt-leb, cases_lt}
use Rattle.model_bus.specs.Numbering.{Rules, ipmb, smbus, is_above, is_next}

-- what the theorem needs of a numbering
pub record IsNumbering (b : Rules) : Type 0 where
  -- the numbers of the next requests are above
  pub near : (m n : ℕ) → m < n → n < m + b.span → b.is_above (b.number_of m) (b.number_of n) ≡ true
  -- before a number comes again, one came that is not above
  pub far : (m n : ℕ) → m < n → b.number_of m ≡ b.number_of n → (d : ℕ) × (m < d) × (d < n) × (b.is_above (b.number_of m) (b.number_of d) ≡ false)
  -- two live requests have different numbers
  pub one : (m n : ℕ) → m ≤ n → n < m + b.span → b.number_of m ≡ b.number_of n → m ≡ n
  -- a request's number isn't above that of the next, nor is any number above itself
  pub before : (n : ℕ) → b.is_above (b.number_of (suc n)) (b.number_of n) ≡ false
  pub never : (x : ℕ) → b.is_above x x ≡ false

-- the numbers of the greetings: those half a circle from the first request's, right before that, and right before the first request's
pub record IsGreeting (b : Rules) (half one two : ℕ) : Type 0 where
  -- what is above the first is fresh, and so is itself
  pub half_fresh : (half ≢ b.number_of 0) × (b.is_above (b.number_of 0) half ≡ false)
  pub above_fresh : (x : ℕ) → b.is_above half x ≡ true → (x ≢ b.number_of 0) × (b.is_above (b.number_of 0) x ≡ false)
  -- of the two others neither is above the other, and the second is fresh
  pub to : b.is_above one two ≡ false
  pub from : b.is_above two one ≡ false
  pub apart : one ≢ two
  pub two_fresh : (two ≢ b.number_of 0) × (b.is_above (b.number_of 0) two ≡ false)

pub ipmb_numbers : (manager controller first : ℕ) → IsNumbering (ipmb manager controller first)
ipmb_numbers manager controller first = record {
  near = λ m n lt within. and_from _ _ (lt-ltb 0 (((first + n) % 64 + 64 - (first + m) % 64) % 64) (omega arith)) (lt-ltb (((first + n) % 64 + 64 - (first + m) % 64) % 64) 32 (omega arith));
  far = λ m n lt same. (m + 32, omega arith, omega arith, and_right _ _ (le-ltb (((first + (m + 32)) % 64 + 64 - (first + m) % 64) % 64) 32 (omega arith)));
  one = λ m n le within same. omega arith;
  before = λ n. and_right _ _ (le-ltb (((first + n) % 64 + 64 - (first + suc n) % 64) % 64) 32 (omega arith));
  never = λ x. and_left _ _ (le-ltb 0 ((x + 64 - x) % 64) (omega arith));
}

pub smbus_numbers : (manager controller first : ℕ) → IsNumbering (smbus manager controller first)
smbus_numbers manager controller first = record {
  near = λ m n lt within. and_from _ _ (lt-ltb 0 (((first + n) % 32 + 32 - (first + m) % 32) % 32) (omega arith)) (lt-ltb (((first + n) % 32 + 32 - (first + m) % 32) % 32) 16 (omega arith));
  far = λ m n lt same. (m + 16, omega arith, omega arith, and_right _ _ (le-ltb (((first + (m + 16)) % 32 + 32 - (first + m) % 32) % 32) 16 (omega arith)));
  one = λ m n le within same. omega arith;
  before = λ n. and_right _ _ (le-ltb (((first + n) % 32 + 32 - (first + suc n) % 32) % 32) 16 (omega arith));
  never = λ x. and_left _ _ (le-ltb 0 ((x + 32 - x) % 32) (omega arith));
}

pub ipmb_greeting : (manager controller first : ℕ) → IsGreeting (ipmb manager controller first) ((first + 32) % 64) ((first + 31) % 64) ((first + 63) % 64)
ipmb_greeting manager controller first = record {
  half_fresh = ((λ same. absurd (omega arith)), and_right _ _ (le-ltb (((first + 32) % 64 + 64 - (first + 0) % 64) % 64) 32 (omega arith)));
  above_fresh = λ x is.
      let parts = and_parts _ _ is in
      let above : 0 < ((x + 64 - (first + 32) % 64) % 64) = ltb-true _ _ parts.0 in
      let within : ((x + 64 - (first + 32) % 64) % 64) < 32 = ltb-true _ _ parts.1 in
      ((λ same. absurd (omega arith)), and_right _ _ (le-ltb ((x + 64 - (first + 0) % 64) % 64) 32 (omega arith)));
  to = and_right _ _ (le-ltb (((first + 63) % 64 + 64 - (first + 31) % 64) % 64) 32 (omega arith));
  from = and_right _ _ (le-ltb (((first + 31) % 64 + 64 - (first + 63) % 64) % 64) 32 (omega arith));
  apart = λ same. absurd (omega arith);
  two_fresh = ((λ same. absurd (omega arith)), and_right _ _ (le-ltb (((first + 63) % 64 + 64 - (first + 0) % 64) % 64) 32 (omega arith)));
}

pub smbus_greeting : (manager controller first : ℕ) → IsGreeting (smbus manager controller first) ((first + 16) % 32) ((first + 15) % 32) ((first + 31) % 32)
smbus_greeting manager controller first = record {
  half_fresh = ((λ same. absurd (omega arith)), and_right _ _ (le-ltb (((first + 16) % 32 + 32 - (first + 0) % 32) % 32) 16 (omega arith)));
  above_fresh = λ x is.
      let parts = and_parts _ _ is in
      let above : 0 < ((x + 32 - (first + 16) % 32) % 32) = ltb-true _ _ parts.0 in
      let within : ((x + 32 - (first + 16) % 32) % 32) < 16 = ltb-true _ _ parts.1 in
      ((λ same. absurd (omega arith)), and_right _ _ (le-ltb ((x + 32 - (first + 0) % 32) % 32) 16 (omega arith)));
  to = and_right _ _ (le-ltb (((first + 31) % 32 + 32 - (first + 15) % 32) % 32) 16 (omega arith));
  from = and_right _ _ (le-ltb (((first + 15) % 32 + 32 - (first + 31) % 32) % 32) 16 (omega arith));
  apart = λ same. absurd (omega arith);
  two_fresh = ((λ same. absurd (omega arith)), and_right _ _ (le-ltb (((first + 31) % 32 + 32 - (first + 0) % 32) % 32) 16 (omega arith)));
}

-- what the rows of a window need of a circle of numbers
pub record IsCircle (circle : ℕ) : Type 0 where
  -- no number is above itself
  pub never : (x : ℕ) → is_above circle x x ≡ false
  -- of two different numbers, either the second is above the first, or the first is one of the next after the second
  pub either : (x y : ℕ) → x < circle → y < circle → x ≢ y → is_next circle y x ≡ not (is_above circle x y)

either_64 : (x y : ℕ) → x < 64 → y < 64 → x ≢ y → is_next 64 y x ≡ not (is_above 64 x y)
either_64 x y x_on y_on other =
    elim (cases_lt ((y + 64 - x) % 64) 32) [
      | inl near ↦
          let above : is_above 64 x y ≡ true = and_from _ _ (lt-ltb 0 ((y + 64 - x) % 64) (omega arith)) (lt-ltb ((y + 64 - x) % 64) 32 near) in
          let past : is_next 64 y x ≡ false = and_right _ _ (lt-leb ((x + 64 - y) % 64) 32 (omega arith)) in
          past ∙ ap not (sym above)
      | inr far ↦
          let above : is_above 64 x y ≡ false = and_right _ _ (le-ltb ((y + 64 - x) % 64) 32 far) in
          let next : is_next 64 y x ≡ true = and_from _ _ (lt-ltb 0 ((x + 64 - y) % 64) (omega arith)) (le-leb ((x + 64 - y) % 64) 32 (omega arith)) in
          next ∙ ap not (sym above)
    ]

either_32 : (x y : ℕ) → x < 32 → y < 32 → x ≢ y → is_next 32 y x ≡ not (is_above 32 x y)
either_32 x y x_on y_on other =
    elim (cases_lt ((y + 32 - x) % 32) 16) [
      | inl near ↦
          let above : is_above 32 x y ≡ true = and_from _ _ (lt-ltb 0 ((y + 32 - x) % 32) (omega arith)) (lt-ltb ((y + 32 - x) % 32) 16 near) in
          let past : is_next 32 y x ≡ false = and_right _ _ (lt-leb ((x + 32 - y) % 32) 16 (omega arith)) in
          past ∙ ap not (sym above)
      | inr far ↦
          let above : is_above 32 x y ≡ false = and_right _ _ (le-ltb ((y + 32 - x) % 32) 16 far) in
          let next : is_next 32 y x ≡ true = and_from _ _ (lt-ltb 0 ((x + 32 - y) % 32) (omega arith)) (le-leb ((x + 32 - y) % 32) 16 (omega arith)) in
          next ∙ ap not (sym above)
    ]

pub circle_64 : IsCircle 64
circle_64 = record { never = λ x. and_left _ _ (le-ltb 0 ((x + 64 - x) % 64) (omega arith)); either = either_64 }

pub circle_32 : IsCircle 32
circle_32 = record { never = λ x. and_left _ _ (le-ltb 0 ((x + 32 - x) % 32) (omega arith)); either = either_32 }
