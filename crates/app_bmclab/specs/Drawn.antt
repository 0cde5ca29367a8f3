-- What the words behind `schedule` ask for.
use Rattle.std.specs.Prelude.{◌≡◌, ◌^◌, ℕ, Bool, false, ◌&&◌, List, Option, Some, codes, string_bytes, if◌then◌else◌}
use Rattle.std.specs.Option.{is_none, unwrap_or}
use Rattle.clap.specs.Words.{Row, Text, first_of}
use Rattle.app_base.specs.Asked.{is_given}
use Rattle.app_base.specs.Numbers.{NamesBelow}
use Rattle.lab_play.specs.declared.schedule_making.Links.{Links}
use Rattle.lab_play.specs.declared.schedule_making.Links.TheVariants.{Clean, Drawn}
use Rattle.app_bmclab.specs.declared.schedule_words.Options.{Options}
use Rattle.app_bmclab.specs.declared.schedule_words.ScheduleWords.{ScheduleWords}

-- the option of this name says so many of a hundred, where it is given
abbrev pub NamesPercent : List Row → (name : Text) → Option ℕ → Type 0
NamesPercent rows name percent = NamesBelow 101 (first_of name rows) percent

-- so many of a hundred frames are late, where that is given: never all, since nothing would be left to come past them
abbrev pub NamesDelay : List Row → Option ℕ → Type 0
NamesDelay rows delay = NamesBelow 100 (first_of (codes "delay") rows) delay

-- this seed is given, where one is
abbrev pub NamesSeed : List Row → Option ℕ → Type 0
NamesSeed rows seed = NamesBelow (2 ^ 64) (first_of (codes "seed") rows) seed

-- what was matched has these options
pub record AsksOptions (rows : List Row) (options : Options) : Type 0 where
  pub lose : NamesPercent rows (codes "lose") options.lose
  pub repeat : NamesPercent rows (codes "repeat") options.repeat
  pub delay : NamesDelay rows options.delay
  pub others : NamesPercent rows (codes "others") options.others
  pub seed : NamesSeed rows options.seed

-- no option is given
abbrev pub is_empty : Options → Bool
is_empty options = is_none options.lose && is_none options.repeat && is_none options.delay && is_none options.others && is_none options.seed

-- What the buses do by these options: with none they are clean, and else what isn't given never happens, the seed is 0, and no packet may join
-- one that waits too long.
abbrev pub links_of : Options → Links
links_of options =
    if is_empty options
    then Clean
    else Drawn (record {
      lose = unwrap_or options.lose 0;
      repeat = unwrap_or options.repeat 0;
      delay = unwrap_or options.delay 0;
      others = unwrap_or options.others 0;
      seed = unwrap_or options.seed 0;
      late_joins = false;
    })

-- what was matched behind `schedule` asks for this
pub record AsksSchedule (rows : List Row) (asked : ScheduleWords) : Type 0 where
  pub options : Options
  pub given : AsksOptions rows options
  pub links : asked.wanted.links ≡ links_of options
  pub undo : asked.wanted.undo ≡ is_given (codes "undo") rows
  pub board : first_of (codes "BOARD") rows ≡ Some (string_bytes asked.board)
  pub plan : first_of (codes "PLAN") rows ≡ Some (string_bytes asked.plan)
