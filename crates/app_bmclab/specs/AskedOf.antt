-- What the words behind `ask` ask for.
use Rattle.std.specs.Prelude.{◌≡◌, List, Some, codes, option_map, string_bytes}
use Rattle.clap.specs.Words.{Row, Text, all_of, first_of}
use Rattle.bmc_lab.specs.Request.{AsksForRequest}
use Rattle.app_bmclab.specs.declared.ask_words.AskWords.{AskWords}

-- what was matched behind `ask` asks for this
pub record AsksAsk (rows : List Row) (asked : AskWords) : Type 0 where
  pub board : option_map string_bytes asked.board ≡ first_of (codes "board") rows
  pub words : List Text
  pub given : all_of (codes "BYTE") rows ≡ Some words
  pub request : AsksForRequest (first_of (codes "bus") rows) words asked.request
