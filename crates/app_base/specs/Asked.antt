-- What the words of a command line ask for, and what a run says of those that ask for nothing.
use Rattle.std.specs.Prelude.{◌≡◌, Bool, false, List, [], Option, codes, string_bytes}
use Rattle.std.specs.Option.{option_map_or}
use Rattle.std.specs.Str.{bytes_eq}
use Rattle.clap.specs.Words.{App, Row, Text, fault_of, one_of, subcommand_of}
use Rattle.app_base.specs.declared.console.Stream.TheVariants.{Error}
use Rattle.app_base.specs.declared.status.Status.TheVariants.{RefusedWords}
use Rattle.app_base.specs.Ending.{Saying}
use Rattle.app_base.specs.declared.refusal.Refusal.{Refusal}
use Rattle.app_base.specs.declared.refusal.Refusal.TheVariants.{Memory, Words as Refused}

-- the text says that a flag is given
abbrev pub says_yes : Option Text → Bool
says_yes text = option_map_or (λ t. bytes_eq t (codes "true")) text false

-- the flag of this name is given
abbrev pub is_given : Text → List Row → Bool
is_given name rows = says_yes (one_of name rows)

-- the words, the program's own name first among them, are of its command line, and ask for this by the subcommand that was met
pub record AsksOf {W : Type 0} (program : App) (AsksBy : Option (Text × List Row) → W → Type 0) (words : List Text) (asked : W) : Type 0 where
  pub taken : fault_of program words ≡ []
  pub asks : AsksBy (subcommand_of program words) asked

-- why words aren't read: memory was refused, or they ask for nothing
abbrev pub RefusesWords : {A : Type 0} → (A → Type 0) → Refusal → Type 0
RefusesWords Asked Memory = Unit {0}
RefusesWords {A} Asked (Refused why) = (asked : A) → Asked asked → ⊥

-- what a run says of words that it doesn't read, unless memory was refused: standard error says why
abbrev pub SaysWhy : Refusal → Saying
SaysWhy Memory stream text status = ⊥
SaysWhy (Refused why) stream text status = (stream ≡ Error) × (text ≡ string_bytes why) × (status ≡ RefusedWords)
