-- What is read off the words that clap matched.
use Rattle.std.proofs.Common.{◌≡◌, ◌∙◌, ◌≤◌, ◌<◌, ◌^◌, ℕ, List, Option, None, Some, inl, inr, refl, sym, subst}
use Rattle.std.specs.Option.{SomeIff}
use Rattle.std.specs.Str.Parse.{IsNumeral, digits_value}
use Rattle.clap.specs.Words.{Row, Text, first_of}
use Rattle.app_base.specs.Numbers.{NamesBelow}
use Rattle.app_base.proofs.Numbers.{Below, no_number, number_named}
use Rattle.app_base.proofs.Readings.{none_there, some_same}
use Rattle.bmcnet.specs.Asked.{NamesOption, NamesOr}

-- the word is a number of 32 bits, from the least one on
abbrev pub FitsFrom : (least : ℕ) → Text → Type 0
FitsFrom least word = IsNumeral 10 word × (digits_value 10 word < 2 ^ 32) × (least ≤ digits_value 10 word)

-- an option whose word is read as such a number names it
pub option_named : (least : ℕ) (rows : List Row) (name word : Text) (number : ℕ) → first_of name rows ≡ Some word
    → SomeIff (Some number) (FitsFrom least word) (digits_value 10 word) → NamesOption least rows name (Some number)
option_named least rows name word number is (fits, same) =
    (number_named (2 ^ 32) rows name word number is ((fits.0, fits.1), same), subst (λ (n : ℕ). least ≤ n) (sym same) fits.2)

-- an option whose word isn't read as such a number names none
pub no_option : (least : ℕ) (rows : List Row) (name word : Text) → first_of name rows ≡ Some word → (FitsFrom least word → ⊥)
    → (given : Option ℕ) → NamesOption least rows name given → ⊥
no_option least rows name word is none None missing = none_there (first_of name rows) word missing is
no_option least rows name word is none (Some number) (named, enough) =
    let there : NamesBelow (2 ^ 32) (Some word) (Some number) = subst (λ (o : Option Text). NamesBelow (2 ^ 32) o (Some number)) is named in
    let value : number ≡ digits_value 10 word = some_same (Some number) number there.0 refl there.1 ∙ sym there.2.1 in
    let fits : Below (2 ^ 32) word → ⊥ = λ some. none (some.0, some.1, subst (λ (n : ℕ). least ≤ n) value enough) in
    no_number (2 ^ 32) rows name word is fits (Some number) named

-- what names a number, or the usual one, is given as that number, or not at all
pub given_or : (least usual : ℕ) (rows : List Row) (name : Text) (number : ℕ) → NamesOr least usual rows name number → (given : Option ℕ) × NamesOption least rows name given
given_or least usual rows name number (inl named) = (Some number, named)
given_or least usual rows name number (inr (none, same)) = (None, none)
