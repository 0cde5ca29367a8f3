-- Sums of coefficients, and division, by a divisor of any degree.
use Rattle.std.proofs.Common.{◌≡◌, ℕ, zero, suc, ◌+◌, ◌-◌, ◌≤◌, Bool, true, false, List, [], ◌∷◌, ◌++◌, length, drop, ◌&&◌, refl, sym, ◌∙◌, ap, arith, length-append}
use Rattle.std.proofs.lemmas.List.{length-replicate, length-map}
use Rattle.two_wire.specs.Polynomial.{differ, zeros, plus, scaled, product, IsRemainder, divide}

differ-assoc : (a b c : Bool) → differ (differ a b) c ≡ differ a (differ b c)
differ-assoc false b c = refl
differ-assoc true false c = refl
differ-assoc true true false = refl
differ-assoc true true true = refl

differ-comm : (a b : Bool) → differ a b ≡ differ b a
differ-comm false false = refl
differ-comm false true = refl
differ-comm true false = refl
differ-comm true true = refl

differ-self : (a : Bool) → differ a a ≡ false
differ-self false = refl
differ-self true = refl

pub plus-assoc : (xs ys zs : List Bool) → plus (plus xs ys) zs ≡ plus xs (plus ys zs)
unfolding plus
plus-assoc [] ys zs = refl
plus-assoc (x ∷ xs) [] zs = refl
plus-assoc (x ∷ xs) (y ∷ ys) [] = refl
plus-assoc (x ∷ xs) (y ∷ ys) (z ∷ zs) = rw (differ-assoc x y z, plus-assoc xs ys zs) refl

pub plus-comm : (xs ys : List Bool) → plus xs ys ≡ plus ys xs
unfolding plus
plus-comm [] [] = refl
plus-comm [] (y ∷ ys) = refl
plus-comm (x ∷ xs) [] = refl
plus-comm (x ∷ xs) (y ∷ ys) = rw (differ-comm x y, plus-comm xs ys) refl

plus-self : (xs : List Bool) → plus xs xs ≡ zeros (length xs)
unfolding plus
plus-self [] = refl
plus-self (x ∷ xs) = rw (differ-self x, plus-self xs) refl

-- zeros change nothing
pub plus-zeros : (n : ℕ) (xs : List Bool) → n ≤ length xs → plus (zeros n) xs ≡ xs
unfolding plus
plus-zeros zero xs within = refl
plus-zeros (suc n) [] within = absurd (omega arith)
plus-zeros (suc n) (x ∷ xs) within = rw (plus-zeros n xs (omega arith)) refl

-- nor do zeros at the end
pub plus-longer : (xs ys : List Bool) (n : ℕ) → length xs + n ≤ length ys → plus (xs ++ zeros n) ys ≡ plus xs ys
unfolding plus
plus-longer [] ys n within = plus-zeros n ys (omega arith)
plus-longer (x ∷ xs) [] n within = absurd (omega arith)
plus-longer (x ∷ xs) (y ∷ ys) n within = rw (plus-longer xs ys n (omega arith)) refl

-- lists of the same length in front
pub plus-append : (xs ys zs ws : List Bool) → length xs ≡ length ys → plus (xs ++ zs) (ys ++ ws) ≡ plus xs ys ++ plus zs ws
unfolding plus
plus-append [] [] zs ws same = refl
plus-append [] (y ∷ ys) zs ws same = absurd (omega arith)
plus-append (x ∷ xs) [] zs ws same = absurd (omega arith)
plus-append (x ∷ xs) (y ∷ ys) zs ws same = ap (λ rest. differ x y ∷ rest) (plus-append xs ys zs ws (omega arith))

-- what is added twice is not added
pub plus-twice : (xs ys : List Bool) → length xs ≤ length ys → plus xs (plus xs ys) ≡ ys
plus-twice xs ys within = sym (plus-assoc xs xs ys) ∙ ap (λ zs. plus zs ys) (plus-self xs) ∙ plus-zeros (length xs) ys within

pub length-plus : (xs ys : List Bool) → length xs ≤ length ys → length (plus xs ys) ≡ length ys
unfolding plus
length-plus [] ys within = refl
length-plus (x ∷ xs) [] within = absurd (omega arith)
length-plus (x ∷ xs) (y ∷ ys) within = omega (arith, length-plus xs ys (omega arith))

length-scaled : (b : Bool) (p : List Bool) → length (scaled b p) ≡ length p
unfolding scaled
length-scaled b p = length-map p _

pub scaled-one : (p : List Bool) → scaled true p ≡ p
unfolding scaled
scaled-one [] = refl
scaled-one (x ∷ p) = ap (λ ys. x ∷ ys) (scaled-one p)

pub scaled-none : (p : List Bool) → scaled false p ≡ zeros (length p)
unfolding scaled
scaled-none [] = refl
scaled-none (x ∷ p) = ap (λ ys. false ∷ ys) (scaled-none p)

length-product : (q low : List Bool) → length (product q (true ∷ low)) ≡ length q + length low
unfolding product
length-product [] low = omega (arith, length-replicate (length (true ∷ low) - 1) false)
length-product (b ∷ q) low =
    let others = length-product q low in
    omega (arith, length-scaled b (true ∷ low), length-plus (scaled b (true ∷ low)) (false ∷ product q (true ∷ low)) (omega (arith, length-scaled b (true ∷ low), others)))

-- the quotient without coefficients
undivided : (low r : List Bool) → length r ≡ length low → plus (product [] (true ∷ low)) (zeros 0 ++ r) ≡ r
unfolding product
undivided low r lower = plus-zeros (length (true ∷ low) - 1) r (omega arith)

-- what is of a lower degree than the divisor is its own remainder
pub stop : (low r : List Bool) → length r ≡ length low → IsRemainder (true ∷ low) r r
stop low r lower = record {
  quotient = [];
  lower = omega arith;
  divided = sym (undivided low r lower);
}

-- the front of the product, and what follows it
product-front : (b : Bool) (q low : List Bool) → product (b ∷ q) (true ∷ low) ≡ b ∷ plus (scaled b low) (product q (true ∷ low))
unfolding product plus scaled
product-front false q low = refl
product-front true q low = refl

-- a quotient's front coefficient is the dividend's, and the others divide the rest, which the divisor was added to where that is 1
divided-front : (b : Bool) (q low r : List Bool) → plus (product (b ∷ q) (true ∷ low)) (zeros (length (b ∷ q)) ++ r)
    ≡ b ∷ plus (scaled b low) (plus (product q (true ∷ low)) (zeros (length q) ++ r))
unfolding plus
divided-front false q low r = rw (product-front false q low, plus-assoc) refl
divided-front true q low r = rw (product-front true q low, plus-assoc) refl

-- a step of the division: the front coefficient is taken away, and the divisor where it is 1
pub step : (b : Bool) (low d r : List Bool) → length low ≤ length d → IsRemainder (true ∷ low) (plus (scaled b low) d) r → IsRemainder (true ∷ low) (b ∷ d) r
step b low d r within h = record {
  quotient = b ∷ h.quotient;
  lower = h.lower;
  divided =
      rw (divided-front b h.quotient low r, ← h.divided, plus-twice (scaled b low) d (omega (arith, length-scaled b low))) refl;
}

-- what is left of a sum once the same is taken away from both sides
plus-cancel : (xs ys zs : List Bool) → length xs ≤ length ys → length xs ≤ length zs → plus xs ys ≡ plus xs zs → ys ≡ zs
plus-cancel xs ys zs within inside e = sym (plus-twice xs ys within) ∙ ap (plus xs) e ∙ plus-twice xs zs inside

-- how long the product with a remainder is
length-divided : (q low r : List Bool) → length r ≡ length low → length (plus (product q (true ∷ low)) (zeros (length q) ++ r)) ≡ length q + length low
length-divided q low r lower =
    let rest : length (zeros (length q) ++ r) ≡ length q + length low = omega (arith, length-append (zeros (length q)) r, length-replicate (length q) false) in
    omega (arith, rest, length-product q low, length-plus (product q (true ∷ low)) (zeros (length q) ++ r) (omega (arith, rest, length-product q low)))

one_division : (q s low a b : List Bool) → length a ≡ length low → length b ≡ length low
    → plus (product q (true ∷ low)) (zeros (length q) ++ a) ≡ plus (product s (true ∷ low)) (zeros (length s) ++ b) → a ≡ b
one_division [] [] low a b lower also e = sym (undivided low a lower) ∙ e ∙ undivided low b also
one_division [] (c ∷ s) low a b lower also e =
    absurd (omega (arith, length-divided [] low a lower, length-divided (c ∷ s) low b also, ap length e))
one_division (c ∷ q) [] low a b lower also e =
    absurd (omega (arith, length-divided [] low b also, length-divided (c ∷ q) low a lower, ap length e))
one_division (c ∷ q) (d ∷ s) low a b lower also e =
    let xs : List Bool = plus (product q (true ∷ low)) (zeros (length q) ++ a) in
    let ys : List Bool = plus (product s (true ∷ low)) (zeros (length s) ++ b) in
    let whole : c ∷ plus (scaled c low) xs ≡ d ∷ plus (scaled d low) ys = sym (divided-front c q low a) ∙ e ∙ divided-front d s low b in
    let same : c ≡ d = cc in
    let rest : plus (scaled c low) xs ≡ plus (scaled d low) ys = cc in
    let inside : length (scaled c low) ≤ length xs = omega (arith, length-scaled c low, length-divided q low a lower) in
    let within : length (scaled c low) ≤ length ys = omega (arith, length-scaled c low, length-divided s low b also) in
    one_division q s low a b lower also
    (plus-cancel (scaled c low) xs ys inside within (rest ∙ ap (λ x. plus (scaled x low) ys) (sym same)))

-- a division has one remainder
pub one-remainder : (low d r s : List Bool) → IsRemainder (true ∷ low) d r → IsRemainder (true ∷ low) d s → r ≡ s
one-remainder low d r s h k =
    one_division h.quotient k.quotient low r s (omega (arith, h.lower)) (omega (arith, k.lower)) (sym h.divided ∙ k.divided)

-- a step of long division
divide-front : (steps : ℕ) (b : Bool) (low d : List Bool) → divide (suc steps) (true ∷ low) (b ∷ d) ≡ divide steps (true ∷ low) (plus (scaled b low) d)
unfolding divide plus scaled
divide-front steps b low d = refl

length-left : (b : Bool) (low d : List Bool) → length low ≤ length d → length (plus (scaled b low) d) ≡ length d
length-left b low d within = length-plus (scaled b low) d (omega (arith, length-scaled b low))

-- long division finds the remainder
pub divides : (steps : ℕ) (low d : List Bool) → length d ≡ steps + length low → IsRemainder (true ∷ low) d (divide steps (true ∷ low) d)
unfolding divide plus scaled
divides zero low d long = stop low d (omega arith)
divides (suc steps) low [] long = absurd (omega arith)
divides (suc steps) low (b ∷ d) long =
    let within : length low ≤ length d = omega arith in
    let left : IsRemainder (true ∷ low) (plus (scaled b low) d) (divide steps (true ∷ low) (plus (scaled b low) d)) =
    divides steps low (plus (scaled b low) d) (omega (arith, length-left b low d within)) in
    step b low d (divide steps (true ∷ low) (plus (scaled b low) d)) within left

distributes : (a b x : Bool) → (differ a b && x) ≡ differ (a && x) (b && x)
distributes false b x = refl
distributes true false false = refl
distributes true false true = refl
distributes true true false = refl
distributes true true true = refl

-- a polynomial times a sum
scaled-differ : (a b : Bool) (p : List Bool) → scaled (differ a b) p ≡ plus (scaled a p) (scaled b p)
unfolding scaled plus
scaled-differ a b [] = refl
scaled-differ a b (x ∷ p) = rw (distributes a b x, scaled-differ a b p) refl

-- a sum of sums, its middle parts exchanged
plus-exchanged : (ws vs xs ys : List Bool) → plus (plus ws vs) (plus xs ys) ≡ plus (plus ws xs) (plus vs ys)
plus-exchanged ws vs xs ys =
    plus-assoc ws vs (plus xs ys)
    ∙ ap (plus ws) (sym (plus-assoc vs xs ys) ∙ ap (λ zs. plus zs ys) (plus-comm vs xs) ∙ plus-assoc xs vs ys)
    ∙ sym (plus-assoc ws xs (plus vs ys))

-- the division of a sum is the sum of the divisions
pub divide-plus : (steps : ℕ) (low xs ys : List Bool) → steps + length low ≤ length xs → steps + length low ≤ length ys
    → divide steps (true ∷ low) (plus xs ys) ≡ plus (divide steps (true ∷ low) xs) (divide steps (true ∷ low) ys)
unfolding divide plus scaled
divide-plus zero low xs ys long far = refl
divide-plus (suc steps) low [] ys long far = absurd (omega arith)
divide-plus (suc steps) low (x ∷ xs) [] long far = absurd (omega arith)
divide-plus (suc steps) low (x ∷ xs) (y ∷ ys) long far =
    let parts : plus (scaled (differ x y) low) (plus xs ys) ≡ plus (plus (scaled x low) xs) (plus (scaled y low) ys) =
    ap (λ zs. plus zs (plus xs ys)) (scaled-differ x y low) ∙ plus-exchanged (scaled x low) (scaled y low) xs ys in
    divide-front steps (differ x y) low (plus xs ys)
    ∙ ap (divide steps (true ∷ low)) parts
    ∙ divide-plus steps low (plus (scaled x low) xs) (plus (scaled y low) ys)
    (omega (arith, length-left x low xs (omega arith))) (omega (arith, length-left y low ys (omega arith)))

-- zeros in front go
pub divide-zeros : (steps : ℕ) (low d : List Bool) → length low ≤ length d → divide steps (true ∷ low) (zeros steps ++ d) ≡ d
unfolding divide plus scaled
divide-zeros zero low d within = refl
divide-zeros (suc steps) low d within =
    let long : length low ≤ length (zeros steps ++ d) = omega (arith, length-append (zeros steps) d) in
    let same : plus (scaled false low) (zeros steps ++ d) ≡ zeros steps ++ d =
    ap (λ xs. plus xs (zeros steps ++ d)) (scaled-none low) ∙ plus-zeros (length low) (zeros steps ++ d) long in
    divide-front steps false low (zeros steps ++ d) ∙ ap (divide steps (true ∷ low)) same ∙ divide-zeros steps low d within

-- so many steps, and then so many more
divide-none : (steps : ℕ) (p : List Bool) → divide steps p [] ≡ []
unfolding divide
divide-none zero p = refl
divide-none (suc steps) p = refl

pub divide-on : (m n k : ℕ) (p d : List Bool) → k ≡ m + n → divide k p d ≡ divide n p (divide m p d)
unfolding divide
divide-on zero n k p d e = let same : k ≡ n = omega arith in ap (λ i. divide i p d) same
divide-on (suc m) n k p [] e = divide-none k p ∙ sym (divide-none n p)
divide-on (suc m) n zero p (b ∷ d) e = absurd (omega arith)
divide-on (suc m) n (suc k) p (b ∷ d) e = divide-on m n k p (drop 1 (plus (scaled b p) (b ∷ d))) (omega arith)
