-- What words are read as numbers.
use Rattle.std.proofs.Common.{◌≡◌, ◌≢◌, ◌==◌, Bool, false, ℕ, ◌<◌, ◌^◌, List, Option, None, Some, get_or, arith, Result, Ok, Err, refl, sym, subst}
use Rattle.std.specs.Option.{SomeIff}
use Rattle.std.specs.Result.{result_ok}
use Rattle.std.specs.Str.Parse.{IsNumeral, AllDigits, digits_value, ParsesUnsigned}
use Rattle.std.proofs.lemmas.Str.Parse.{IsNumeralModel, numerals_by_value, tells_digits, parse_plain}
use Rattle.clap.specs.Words.{Row, Text, first_of}
use Rattle.app_base.specs.Numbers.{NamesBelow}

-- std's own words
own : IsNumeralModel (AllDigits 10) (digits_value 10)
own = numerals_by_value (AllDigits 10) tells_digits

-- a byte that a test tells from another
differ : (a b : ℕ) (r : Bool) → r ≡ false → r ≡ (a == b) → a ≢ b
differ a b r refused test same = grind arith

-- what a word without a sign is parsed as
unsigned : {E : Type 0} (bits : ℕ) (word : List ℕ) (r : Result ℕ E) → ParsesUnsigned bits 10 word r → get_or word 0 0 ≢ 43
    → SomeIff (result_ok r) (IsNumeral 10 word × (digits_value 10 word < 2 ^ bits)) (digits_value 10 word)
unsigned {E = E} bits word (Ok n) h sign =
    let p = parse_plain own {E = E} bits word (Ok n) h sign in
    (((p.0.1, p.0.0), p.0.2), p.1)
unsigned {E = E} bits word (Err e) h sign = λ q.
    let p = parse_plain own {E = E} bits word (Err e) h sign in
    p (q.0.1, q.0.0, q.1)

-- the same, where a test says that the word has no sign
pub parsed : {E : Type 0} (bits : ℕ) (word : List ℕ) (r : Result ℕ E) (has_plus : Bool) → has_plus ≡ false → has_plus ≡ (get_or word 0 0 == 43) → ParsesUnsigned bits 10 word r
    → SomeIff (result_ok r) (IsNumeral 10 word × (digits_value 10 word < 2 ^ bits)) (digits_value 10 word)
parsed bits word r has_plus none test h = unsigned bits word r h (differ (get_or word 0 0) 43 has_plus none test)

-- ---- numbers among the words that were matched

-- the word is a number below the end
abbrev pub Below : (end : ℕ) → Text → Type 0
Below end word = IsNumeral 10 word × (digits_value 10 word < end)

-- where no word has the name, there is none
pub none_named : (end : ℕ) (rows : List Row) (name : Text) → first_of name rows ≡ None → NamesBelow end (first_of name rows) None
none_named end rows name is = subst (λ (o : Option Text). NamesBelow end o None) (sym is) refl

-- and no number is named
pub none_given : (end : ℕ) (word : Option Text) (number : ℕ) → word ≡ None → NamesBelow end word (Some number) → ⊥
none_given end word number none named =
    let bad : Some number ≡ None = subst (λ (o : Option Text). NamesBelow end o (Some number)) none named in
    cc

-- a word that is read as such a number names it
pub number_named : (end : ℕ) (rows : List Row) (name word : Text) (number : ℕ) → first_of name rows ≡ Some word → SomeIff (Some number) (Below end word) (digits_value 10 word)
    → NamesBelow end (first_of name rows) (Some number)
number_named end rows name word number is (fits, same) =
    subst (λ (o : Option Text). NamesBelow end o (Some number)) (sym is) (number, refl, (fits.0, sym same), subst (λ (n : ℕ). n < end) (sym same) fits.1)

-- a word that isn't read as one names none
pub no_number : (end : ℕ) (rows : List Row) (name word : Text) → first_of name rows ≡ Some word → SomeIff None (Below end word) (digits_value 10 word)
    → (number : Option ℕ) → NamesBelow end (first_of name rows) number → ⊥
no_number end rows name word is none number named =
    let there : NamesBelow end (Some word) number = subst (λ (o : Option Text). NamesBelow end o number) is named in
    none (there.2.0, subst (λ (n : ℕ). n < end) (sym there.2.1) there.3)
