-- Polynomials over the field of two elements, as the lists of their coefficients, that of the highest power first.
use Rattle.std.specs.Prelude.{◌≡◌, ℕ, ◌-◌, zero, suc, Bool, true, false, not, ◌&&◌, List, [], ◌∷◌, ◌++◌, length, map, drop, replicate}

-- the sum of two coefficients: whether they differ
abbrev pub differ : Bool → Bool → Bool
differ true b = not b
differ false b = b

-- so many coefficients 0
abbrev pub zeros : ℕ → List Bool
zeros n = replicate n false

-- the sum of two lists, place by place from the front; where one has ended it is the other
unfoldable pub plus : List Bool → List Bool → List Bool
plus [] ys = ys
plus (x ∷ xs) [] = x ∷ xs
plus (x ∷ xs) (y ∷ ys) = differ x y ∷ plus xs ys

-- a polynomial times a coefficient
unfoldable pub scaled : Bool → List Bool → List Bool
scaled b p = map (λ x. b && x) p

-- the product of two polynomials, by the coefficients of the first
unfoldable pub product : List Bool → List Bool → List Bool
product [] p = zeros (length p - 1)
product (b ∷ others) p = plus (scaled b p) (false ∷ product others p)

-- the remainder of a division: the dividend is a quotient times the divisor, plus the remainder, which is of a lower degree than the divisor
pub record IsRemainder (divisor dividend remainder : List Bool) : Type 0 where
  pub quotient : List Bool
  pub lower : length remainder ≡ length divisor - 1
  pub divided : dividend ≡ plus (product quotient divisor) (zeros (length quotient) ++ remainder)

-- so many steps of a long division: the divisor times the front coefficient is taken off, and the front, now 0, goes
unfoldable pub divide : ℕ → List Bool → List Bool → List Bool
divide zero divisor dividend = dividend
divide (suc steps) divisor [] = []
divide (suc steps) divisor (front ∷ others) = divide steps divisor (drop 1 (plus (scaled front divisor) (front ∷ others)))

-- the remainder, by long division
abbrev pub remainder_of : List Bool → List Bool → List Bool
remainder_of divisor dividend = divide (length dividend - (length divisor - 1)) divisor dividend
