-- What the words of the command line ask for.
use Rattle.std.specs.Prelude.{◌≡◌, ◌≢◌, ◌++◌, ◌≤◌, ◌^◌, ◌⊎◌, ℕ, Bool, true, false, List, Option, None, Some, option_map, is_some, codes, string_bytes}
use Rattle.clap.specs.Words.{Row, Text, first_of}
use Rattle.app_base.specs.Asked.{AsksOf, is_given}
use Rattle.app_base.specs.Numbers.{NamesBelow}
use Rattle.app_serve.specs.declared.run.ServeWords.{ServeWords}
use Rattle.app_run.specs.declared.running.RunWords.{RunWords}
use Rattle.app_run.specs.declared.undoing.UndoWords.{UndoWords}
use Rattle.app_apply.specs.declared.applying.ApplyWords.{ApplyWords}
use Rattle.app_apply.specs.declared.kept_calls.Reach.{Reach}
use Rattle.app_revert.specs.declared.reverting.RevertWords.{RevertWords}
use Rattle.app_change.specs.declared.changing.ChangeWords.{ChangeWords}
use Rattle.app_change.specs.declared.taking_back.BackWords.{BackWords}
use Rattle.app_show.specs.declared.keys.IdRange.{IdRange}
use Rattle.app_show.specs.declared.showing.ShowWords.{ShowWords}
use Rattle.app_pair.specs.declared.pairing.PairWords.{PairWords}
use Rattle.app_change.specs.declared.previewing.PreviewWords.{PreviewWords}
use Rattle.bmcnet.specs.declared.words.Words.{Words}
use Rattle.bmcnet.specs.declared.words.Words.TheVariants.{Serve, Run, Undo, Pair, Apply, Revert, Preview, Show, Version}
use Rattle.bmcnet.specs.Ids.{NamesGiven}
use Rattle.bmcnet.specs.Line.{program}

-- the word of this name is this port
abbrev pub NamesPort : List Row → (name : Text) → (port : ℕ) → Type 0
NamesPort rows name port = NamesBelow (2 ^ 16) (first_of name rows) (Some port)

-- the word TURNS is so many turns
abbrev pub NamesTurns : List Row → (turns : ℕ) → Type 0
NamesTurns rows turns = NamesBelow (2 ^ 32) (first_of (codes "TURNS") rows) (Some turns)

-- the option of this name is this number of 32 bits, in decimal digits, from the least one on; or it isn't given, and there is none
abbrev pub NamesOption : (least : ℕ) → List Row → (name : Text) → Option ℕ → Type 0
NamesOption least rows name None = first_of name rows ≡ None
NamesOption least rows name (Some number) = NamesBelow (2 ^ 32) (first_of name rows) (Some number) × (least ≤ number)

-- it is this number, which is the usual one where the option isn't given
abbrev pub NamesOr : (least usual : ℕ) → List Row → (name : Text) → (number : ℕ) → Type 0
NamesOr least usual rows name number = NamesOption least rows name (Some number) ⊎ (NamesOption least rows name None × (number ≡ usual))

-- so many milliseconds of quiet end a turn: 200, unless the option `--wait` says otherwise
abbrev pub NamesWait : List Row → (wait : ℕ) → Type 0
NamesWait rows wait = NamesOr 1 200 rows (codes "wait") wait

-- Options of `serve` stand beside each other: a clock and a file that begins anew go over periods, only a file that is there begins anew, and a
-- clock stands in place of a file.
pub record StandBeside (clock repeats periods readings : Bool) : Type 0 where
  pub ticks : clock ≡ true → periods ≡ true
  pub anew : repeats ≡ true → periods ≡ true
  pub there : repeats ≡ true → readings ≡ true
  pub one : clock ≡ true → readings ≡ false

-- so do those that were matched
abbrev pub OptionsStand : List Row → Type 0
OptionsStand rows =
    StandBeside (is_given (codes "clock") rows) (is_given (codes "repeat-readings") rows) (is_given (codes "periods") rows) (is_some (first_of (codes "readings") rows))

-- what was matched behind `serve` asks for this
pub record AsksServe (rows : List Row) (asked : ServeWords) : Type 0 where
  pub board : first_of (codes "BOARD") rows ≡ Some (string_bytes asked.board)
  pub ipmb : NamesPort rows (codes "P0") asked.ipmb_port
  pub smbus : NamesPort rows (codes "P1") asked.smbus_port
  pub turns : NamesTurns rows asked.turns
  pub wait : NamesWait rows asked.wait_ms
  pub periods : is_given (codes "periods") rows ≡ asked.periods
  pub quiet : NamesOption 1 rows (codes "quiet") asked.quiet
  pub forget : NamesOption 1 rows (codes "forget") asked.forget
  pub readings : option_map string_bytes asked.readings ≡ first_of (codes "readings") rows
  pub repeats : is_given (codes "repeat-readings") rows ≡ asked.repeats
  pub clock : is_given (codes "clock") rows ≡ asked.clock
  pub strict : is_given (codes "strict") rows ≡ asked.strict
  pub list : is_given (codes "list") rows ≡ asked.list
  pub stand : OptionsStand rows

-- what was matched behind `run` asks for this
pub record AsksRun (rows : List Row) (asked : RunWords) : Type 0 where
  pub plan : first_of (codes "PLAN") rows ≡ Some (string_bytes asked.plan)
  pub ipmb : NamesPort rows (codes "P0") asked.ipmb_port
  pub smbus : NamesPort rows (codes "P1") asked.smbus_port
  pub turns : NamesTurns rows asked.turns
  pub undo : first_of (codes "UNDO") rows ≡ Some (string_bytes asked.undo)
  pub wait : NamesWait rows asked.wait_ms
  pub again : NamesOr 0 0 rows (codes "again") asked.again
  pub forget : NamesOption 1 rows (codes "forget") asked.forget
  pub greet : is_given (codes "greet") rows ≡ asked.greet
  pub replace : is_given (codes "replace") rows ≡ asked.replace
  pub strict : is_given (codes "strict") rows ≡ asked.strict

-- what was matched behind `undo` asks for this
pub record AsksUndo (rows : List Row) (asked : UndoWords) : Type 0 where
  pub undo : first_of (codes "UNDO") rows ≡ Some (string_bytes asked.undo)
  pub ipmb : NamesPort rows (codes "P0") asked.ipmb_port
  pub smbus : NamesPort rows (codes "P1") asked.smbus_port
  pub turns : NamesTurns rows asked.turns
  pub wait : NamesWait rows asked.wait_ms
  pub greet : is_given (codes "greet") rows ≡ asked.greet
  pub strict : is_given (codes "strict") rows ≡ asked.strict

-- what was matched behind `pair` asks for this
pub record AsksPair (rows : List Row) (asked : PairWords) : Type 0 where
  pub board : first_of (codes "BOARD") rows ≡ Some (string_bytes asked.board)
  pub plan : first_of (codes "PLAN") rows ≡ Some (string_bytes asked.plan)
  pub turns : NamesTurns rows asked.options.turns
  pub strict : is_given (codes "strict") rows ≡ asked.options.strict
  pub list : is_given (codes "list") rows ≡ asked.options.list

-- the word of this name is this port, or it isn't given, and there is none
abbrev pub NamesPortOr : List Row → (name : Text) → Option ℕ → Type 0
NamesPortOr rows name port = NamesBelow (2 ^ 16) (first_of name rows) port

-- where a controller is, and how long it is listened to, by `[--wait MS] [--again N] P0 [P1]`
pub record NamesReach (rows : List Row) (reach : Reach) : Type 0 where
  pub ipmb : NamesPort rows (codes "P0") reach.ipmb_port
  pub smbus : NamesPortOr rows (codes "P1") reach.smbus_port
  pub wait : NamesWait rows reach.wait_ms
  pub again : NamesOr 0 0 rows (codes "again") reach.again

-- the word of the file that gets what takes back a plan of this word: that, with `.undo` for `.toml` at its end, or behind it
abbrev pub IsFileOf : (plan file : List ℕ) → Type 0
IsFileOf plan file =
    ((stem : List ℕ) × (plan ≡ stem ++ codes ".toml") × (file ≡ stem ++ codes ".undo"))
    ⊎ (((stem : List ℕ) → plan ≢ stem ++ codes ".toml") × (file ≡ plan ++ codes ".undo"))

-- the file is that of the option `--undo`, or else that of the plan
abbrev pub NamesFile : List Row → (plan file : List ℕ) → Type 0
NamesFile rows plan file =
    (first_of (codes "undo") rows ≡ Some file) ⊎ ((first_of (codes "undo") rows ≡ None) × IsFileOf plan file)

-- what was matched behind `apply` asks for this, but for its options that change what is carried out
pub record AsksApply (rows : List Row) (asked : ApplyWords) : Type 0 where
  pub plan : first_of (codes "PLAN") rows ≡ Some (string_bytes asked.plan)
  pub file : NamesFile rows (string_bytes asked.plan) (string_bytes asked.file)
  pub replace : is_given (codes "replace") rows ≡ asked.replace
  pub reach : NamesReach rows asked.reach
  pub json : is_given (codes "json") rows ≡ asked.json

-- and with these
pub record AsksChange (rows : List Row) (asked : ChangeWords) : Type 0 where
  pub apply : AsksApply rows asked.apply
  pub only_changes : is_given (codes "only-changes") rows ≡ asked.only_changes
  pub all_or_none : is_given (codes "all-or-none") rows ≡ asked.all_or_none

-- what was matched behind `revert` asks for this, but for whether that is only told
pub record AsksRevert (rows : List Row) (asked : RevertWords) : Type 0 where
  pub file : first_of (codes "FILE") rows ≡ Some (string_bytes asked.file)
  pub reach : NamesReach rows asked.reach
  pub json : is_given (codes "json") rows ≡ asked.json

-- and with that
pub record AsksBack (rows : List Row) (asked : BackWords) : Type 0 where
  pub revert : AsksRevert rows asked.revert
  pub preview : is_given (codes "preview") rows ≡ asked.preview

-- what was matched behind `preview` asks for this
pub record AsksPreview (rows : List Row) (asked : PreviewWords) : Type 0 where
  pub plan : first_of (codes "PLAN") rows ≡ Some (string_bytes asked.plan)
  pub json : is_given (codes "json") rows ≡ asked.json
  pub reach : NamesReach rows asked.reach

-- the option `--effecters` names these ids
abbrev pub NamesIdRanges : List Row → List IdRange → Type 0
NamesIdRanges rows ranges = NamesGiven (first_of (codes "effecters") rows) ranges

-- what was matched behind `show` asks for this
pub record AsksShow (rows : List Row) (asked : ShowWords) : Type 0 where
  pub effecters : NamesIdRanges rows asked.effecters.items
  pub out : option_map string_bytes asked.out ≡ first_of (codes "out") rows
  pub json : is_given (codes "json") rows ≡ asked.json
  pub reach : NamesReach rows asked.reach

-- the subcommand, with what was matched behind it, asks for this
abbrev pub AsksBy : Option (Text × List Row) → Words → Type 0
AsksBy met (Serve asked) = (rows : List Row) × (met ≡ Some (codes "serve", rows)) × AsksServe rows asked
AsksBy met (Run asked) = (rows : List Row) × (met ≡ Some (codes "run", rows)) × AsksRun rows asked
AsksBy met (Undo asked) = (rows : List Row) × (met ≡ Some (codes "undo", rows)) × AsksUndo rows asked
AsksBy met (Pair asked) = (rows : List Row) × (met ≡ Some (codes "pair", rows)) × AsksPair rows asked
AsksBy met (Apply asked) = (rows : List Row) × (met ≡ Some (codes "apply", rows)) × AsksChange rows asked
AsksBy met (Revert asked) = (rows : List Row) × (met ≡ Some (codes "revert", rows)) × AsksBack rows asked
AsksBy met (Preview asked) = (rows : List Row) × (met ≡ Some (codes "preview", rows)) × AsksPreview rows asked
AsksBy met (Show asked) = (rows : List Row) × (met ≡ Some (codes "show", rows)) × AsksShow rows asked
AsksBy met Version = (rows : List Row) × (met ≡ Some (codes "version", rows))

-- the words, the program's own name first among them, are of its command line, and ask for this
abbrev pub AsksFor : (words : List Text) → (asked : Words) → Type 0
AsksFor words asked = AsksOf program AsksBy words asked
