-- Numbers among the words.
use Rattle.std.specs.Prelude.{◌≡◌, ◌<◌, ℕ, Option, None, Some}
use Rattle.std.specs.Net.Grammar.{IsNumber}
use Rattle.clap.specs.Words.{Text}

-- the word, where there is one, is this number in decimal digits, which is below the end
abbrev pub NamesBelow : (end : ℕ) → Option Text → Option ℕ → Type 0
NamesBelow end None number = number ≡ None
NamesBelow end (Some word) number = (n : ℕ) × (number ≡ Some n) × IsNumber 10 word n × (n < end)
