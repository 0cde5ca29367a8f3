-- What the words of the command line ask for.
use Rattle.std.specs.Prelude.{◌≡◌, Bool, true, false, List, Option, None, Some, codes, option_map, string_bytes}
use Rattle.clap.specs.Words.{Row, Text, first_of}
use Rattle.bmc_lab.specs.Asked.{AsksForBytes}
use Rattle.app_play.specs.declared.run.Shown.{Shown}
use Rattle.app_play.specs.declared.run.Shown.TheVariants.{Lines, Chart}
use Rattle.app_base.specs.Asked.{AsksOf, is_given}
use Rattle.app_bmclab.specs.declared.words.Words.{Words}
use Rattle.app_bmclab.specs.declared.words.Words.TheVariants.{Frame, Ask, Play, Schedule, Check, Version}
use Rattle.app_bmclab.specs.declared.words.FrameWords.{FrameWords}
use Rattle.app_bmclab.specs.declared.words.PlayWords.{PlayWords}
use Rattle.app_bmclab.specs.AskedOf.{AsksAsk}
use Rattle.app_bmclab.specs.Drawn.{AsksSchedule}
use Rattle.app_bmclab.specs.Looked.{AsksCheck}
use Rattle.app_bmclab.specs.Line.{program}
use Rattle.app_bmclab.specs.Places.{NamesPlaces}

-- how a play is shown where the flags `--frames`, `--premises`, `--list` and `--chart` are given or not: a chart has no lines of frames, none of
-- the premise on packets, and none of records
abbrev pub shown_of : (frames premises list chart : Bool) → Option Shown
shown_of frames premises list false = Some (Lines frames premises)
shown_of false false false true = Some Chart
shown_of true premises list true = None
shown_of false true list true = None
shown_of false false true true = None

-- what was matched behind `frame` asks for this
pub record AsksFrame (rows : List Row) (asked : FrameWords) : Type 0 where
  pub board : option_map string_bytes asked.board ≡ first_of (codes "board") rows
  pub digits : Text
  pub given : first_of (codes "HEX") rows ≡ Some digits
  pub frame : AsksForBytes (first_of (codes "bus") rows) digits asked.frame.bus asked.frame.bytes.items
  pub explain : asked.explain ≡ is_given (codes "explain") rows

-- what was matched behind `play` asks for this
pub record AsksPlay (rows : List Row) (asked : PlayWords) : Type 0 where
  pub shown : shown_of (is_given (codes "frames") rows) (is_given (codes "premises") rows) (is_given (codes "list") rows) (is_given (codes "chart") rows) ≡ Some asked.shown
  pub strict : is_given (codes "strict") rows ≡ asked.options.strict
  pub list : is_given (codes "list") rows ≡ asked.options.list
  pub explain : asked.explain ≡ is_given (codes "explain") rows
  pub restarts : NamesPlaces (first_of (codes "restart") rows) asked.restarts.items
  pub board : first_of (codes "BOARD") rows ≡ Some (string_bytes asked.board)
  pub plan : first_of (codes "PLAN") rows ≡ Some (string_bytes asked.plan)
  pub schedule : first_of (codes "SCHEDULE") rows ≡ Some (string_bytes asked.schedule)

-- the subcommand, with what was matched behind it, asks for this
abbrev pub AsksBy : Option (Text × List Row) → Words → Type 0
AsksBy met (Frame asked) = (rows : List Row) × (met ≡ Some (codes "frame", rows)) × AsksFrame rows asked
AsksBy met (Ask asked) = (rows : List Row) × (met ≡ Some (codes "ask", rows)) × AsksAsk rows asked
AsksBy met (Play asked) = (rows : List Row) × (met ≡ Some (codes "play", rows)) × AsksPlay rows asked
AsksBy met (Schedule asked) = (rows : List Row) × (met ≡ Some (codes "schedule", rows)) × AsksSchedule rows asked
AsksBy met (Check asked) = (rows : List Row) × (met ≡ Some (codes "check", rows)) × AsksCheck rows asked
AsksBy met Version = (rows : List Row) × (met ≡ Some (codes "version", rows))

-- the words, the program's own name first among them, are of its command line, and ask for this
abbrev pub AsksFor : (words : List Text) → (asked : Words) → Type 0
AsksFor words asked = AsksOf program AsksBy words asked
