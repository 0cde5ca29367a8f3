-- The program's command line, as clap has it.
use Rattle.std.specs.Prelude.{[], ◌∷◌, codes, fold}
use Rattle.clap.specs.Words.{App, new_app, with_rule, with_subcommand}
use Rattle.app_base.specs.Line.{flag_rule, needed_rule, needing_subcommand, option_rule, several_rule}
use Rattle.app_base.specs.Version.{version_app}

-- `frame [--explain] [--bus ipmb|smbus] [--board FILE] HEX`
abbrev pub frame_app : App
frame_app = fold with_rule (new_app (codes "frame")) (flag_rule (codes "explain") ∷ option_rule (codes "bus") ∷ option_rule (codes "board") ∷ needed_rule (codes "HEX") ∷ [])

-- `ask [--bus ipmb|smbus] [--board FILE] BYTE..`
abbrev pub ask_app : App
ask_app = fold with_rule (new_app (codes "ask")) (option_rule (codes "bus") ∷ option_rule (codes "board") ∷ several_rule (codes "BYTE") ∷ [])

-- `play [[--frames] [--premises] [--list] | --chart] [--explain] [--strict] [--restart PLACES] BOARD PLAN SCHEDULE`
abbrev pub play_app : App
play_app = fold with_rule (new_app (codes "play"))
    (flag_rule (codes "frames") ∷ flag_rule (codes "premises") ∷ flag_rule (codes "chart") ∷ flag_rule (codes "explain") ∷ flag_rule (codes "list") ∷ flag_rule (codes "strict")
    ∷ option_rule (codes "restart")
    ∷ needed_rule (codes "BOARD") ∷ needed_rule (codes "PLAN") ∷ needed_rule (codes "SCHEDULE") ∷ [])

-- `schedule [--lose N] [--repeat N] [--delay N] [--others N] [--seed S] [--undo] BOARD PLAN`
abbrev pub schedule_app : App
schedule_app = fold with_rule (new_app (codes "schedule"))
    (option_rule (codes "lose") ∷ option_rule (codes "repeat") ∷ option_rule (codes "delay") ∷ option_rule (codes "others") ∷ option_rule (codes "seed") ∷ flag_rule (codes "undo")
    ∷ needed_rule (codes "BOARD") ∷ needed_rule (codes "PLAN") ∷ [])

-- `check [--as FORM | --against BOARD] FILE..`
abbrev pub check_app : App
check_app = fold with_rule (new_app (codes "check")) (option_rule (codes "as") ∷ option_rule (codes "against") ∷ several_rule (codes "FILE") ∷ [])

-- `bmclab`, and what it can do with a board
abbrev pub runs : App
runs = with_subcommand (with_subcommand (with_subcommand (needing_subcommand (new_app (codes "bmclab"))) frame_app.top) ask_app.top) play_app.top

-- `bmclab`, and what it can do
abbrev pub program : App
program = with_subcommand (with_subcommand (with_subcommand runs schedule_app.top) check_app.top) version_app.top
