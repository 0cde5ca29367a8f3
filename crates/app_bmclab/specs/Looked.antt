-- What the words behind `check` ask for.
use Rattle.std.specs.Prelude.{◌≡◌, List, Option, None, Some, codes, map, string_bytes}
use Rattle.clap.specs.Words.{Row, Text, all_of, first_of}
use Rattle.text_check.specs.declared.text_form.TextForm.{TextForm}
use Rattle.text_check.specs.Looks.{form_named}
use Rattle.app_bmclab.specs.declared.check_words.CheckWay.{CheckWay}
use Rattle.app_bmclab.specs.declared.check_words.CheckWay.TheVariants.{Alone, Against}
use Rattle.app_bmclab.specs.declared.check_words.CheckWords.{CheckWords}

-- the word, where there is one, calls a text this
abbrev pub CallsForm : Option Text → Option TextForm → Type 0
CallsForm None said = said ≡ None
CallsForm (Some word) said = (form : TextForm) × (said ≡ Some form) × (form_named word ≡ Some form)

-- what was matched says that the files are this, where it says something of that
abbrev pub AsksForm : List Row → Option TextForm → Type 0
AsksForm rows said = CallsForm (first_of (codes "as") rows) said

-- what was matched says how the files are checked: against a board, and then nothing is said of what they are, or each for itself
abbrev pub AsksWay : List Row → CheckWay → Type 0
AsksWay rows (Alone said) = (first_of (codes "against") rows ≡ None) × AsksForm rows said
AsksWay rows (Against board) = (first_of (codes "against") rows ≡ Some (string_bytes board)) × (first_of (codes "as") rows ≡ None)

-- what was matched behind `check` asks for this
pub record AsksCheck (rows : List Row) (asked : CheckWords) : Type 0 where
  pub way : AsksWay rows asked.way
  pub files : all_of (codes "FILE") rows ≡ Some (map string_bytes asked.files.items)
