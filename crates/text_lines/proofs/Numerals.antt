-- What words are read as numbers.
use Rattle.std.proofs.Common.{suc, zero, Bool, true, false, ◌==◌, ◌⊎◌, inl, inr, ◌≡◌, ◌≢◌, ℕ, ◌<◌, ◌≤◌, ◌^◌, List, length, get_or, arith, sym, ◌∙◌, ap, IfSome, IfNone, Result, Ok, Err}
use Rattle.std.specs.Option.{SomeIff}
use Rattle.std.specs.Result.{result_ok}
use Rattle.std.specs.Fmt.{decimal}
use Rattle.std.specs.Str.Parse.{IsNumeral, AllDigits, digits_value, ParsesUnsigned}
use Rattle.std.proofs.lemmas.Str.Parse.{IsNumeralModel, numerals_by_value, tells_digits, parse_plain, digits_value_short, not_in_digits}
use Rattle.std.proofs.lemmas.Fmt.{decimal-digits_value, parse-decimal, digits_decimal, first_decimal, decimal_digit, decimal_nonempty}

-- std's own words
own : IsNumeralModel (AllDigits 10) (digits_value 10)
own = numerals_by_value (AllDigits 10) tells_digits

-- a number in decimal has no sign
pub no_sign : (word : List ℕ) (n : ℕ) → n < 2 ^ 32 → get_or word 0 0 ≡ 43 → word ≢ decimal n
no_sign word n low plus e =
    let all : AllDigits 10 (decimal n) = digits_decimal own n (omega (arith, low)) in
    let some : 0 < length (decimal n) = decimal_nonempty n (omega (arith, low)) in
    not_in_digits own (decimal n) 43 all (λ r. omega (arith, r.0)) 0 some (ap (λ (w : List ℕ). get_or w 0 0) (sym e) ∙ plus)

-- a number in decimal begins with 0 only where it is 0
pub no_lead : (word : List ℕ) (n : ℕ) → n < 2 ^ 32 → get_or word 0 0 ≡ 48 → 1 < length word → word ≢ decimal n
no_lead word zero low nought long e =
    let one : length word ≡ 1 = ap length (e ∙ decimal_digit 0 (omega arith)) in
    omega (arith, one, long)
no_lead word (suc n) low nought long e =
    let more : 48 < get_or (decimal (suc n)) 0 0 = first_decimal (suc n) (omega arith) (omega (arith, low)) in
    let same : get_or (decimal (suc n)) 0 0 ≡ 48 = ap (λ (w : List ℕ). get_or w 0 0) (sym e) ∙ nought in
    omega (arith, more, same)

-- what a word without a sign and a leading 0 is parsed as
pub plain : {E : Type 0} (word : List ℕ) (r : Result ℕ E) → ParsesUnsigned 32 10 word r → get_or word 0 0 ≢ 43 → (get_or word 0 0 ≡ 48 → length word ≤ 1)
    → IfSome (result_ok r) (λ n. (n < 2 ^ 32) × (word ≡ decimal n)) × IfNone (result_ok r) ((n : ℕ) → n < 2 ^ 32 → word ≢ decimal n)
plain {E = E} word (Ok n) h sign lead =
    let p = parse_plain own {E = E} 32 word (Ok n) h sign in
    let some : 0 < length word = p.0.1 in
    let same = decimal-digits_value own word p.0.0 some (λ z. (let short = lead z in omega (arith, short, some))) (omega (arith, p.0.2)) in
    let low : n < 2 ^ 32 = omega (arith, p.0.2, p.1) in
    ((low, sym (ap decimal p.1 ∙ same)), tt)
plain word (Err e) h sign lead = (tt, λ n low same. (let found = parse-decimal 32 n word (Err e) low (omega (arith, low)) same h in cc found))

-- what a short word without a sign is parsed as
pub short : {E : Type 0} (word : List ℕ) (most : ℕ) (r : Result ℕ E) → ParsesUnsigned 32 10 word r → get_or word 0 0 ≢ 43 → length word ≤ most → most ≤ 9
    → SomeIff (result_ok r) (IsNumeral 10 word × (length word ≤ most)) (digits_value 10 word)
short {E = E} word most (Ok n) h sign fits few =
    let p = parse_plain own {E = E} 32 word (Ok n) h sign in
    (((p.0.1, p.0.0), fits), p.1)
short {E = E} word most (Err e) h sign fits few = λ q.
    let p = parse_plain own {E = E} 32 word (Err e) h sign in
    let bound : digits_value 10 word < 10 ^ 9 = digits_value_short own word 9 q.0.1 (omega (arith, fits, few)) in
    p (q.0.1, q.0.0, omega (arith, bound))

-- what a test of two numbers says
pub differ : (a b : ℕ) (r : Bool) → r ≡ false → r ≡ (a == b) → a ≢ b
differ a b r refused test same = grind arith

pub agree : (a b : ℕ) (r : Bool) → r ≡ true → r ≡ (a == b) → a ≡ b
agree a b r passed test = grind arith

-- the first byte, where one test of two says that it isn't 0
pub lead_alone : (a n : ℕ) (r : Bool) → (r ≡ true) × (n ≤ 1) ⊎ (r ≡ false) → r ≡ (a == 48) → a ≡ 48 → n ≤ 1
lead_alone a n r (inl h) is same = h.1
lead_alone a n r (inr h) is same = absurd (differ a 48 r h is same)
