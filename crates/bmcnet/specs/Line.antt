-- The program's command line, as clap has it.
use Rattle.std.specs.Prelude.{[], ◌∷◌, ◌++◌, List, codes, fold, map}
use Rattle.clap.specs.Words.{App, Rule, Text, new_app, new_rule, with_rule, with_subcommand}
use Rattle.app_base.specs.Line.{flag_rule, needed_rule, needing_subcommand, option_rule}
use Rattle.app_base.specs.Version.{version_app}
use Rattle.bmcnet.specs.declared.tasks.Task.{Task}
use Rattle.bmcnet.specs.declared.tasks.Task.TheVariants.{Serve, Run, Undo, Pair, Apply, Revert, Preview, Show}

-- a command of this name, with these options, and with words each of which must be there
abbrev pub taking : (name : Text) → (options : List Rule) → (words : List Text) → App
taking name options words = fold with_rule (new_app name) (options ++ map needed_rule words)

-- the options of `serve`: `[--wait MS] [--periods] [--quiet N] [--forget N] [--readings FILE] [--repeat-readings] [--clock] [--strict] [--list]`
abbrev pub serve_options : List Rule
serve_options =
    option_rule (codes "wait") ∷ flag_rule (codes "periods") ∷ option_rule (codes "quiet") ∷ option_rule (codes "forget")
    ∷ option_rule (codes "readings") ∷ flag_rule (codes "repeat-readings") ∷ flag_rule (codes "clock")
    ∷ flag_rule (codes "strict") ∷ flag_rule (codes "list") ∷ []

-- those of `run`: `[--wait MS] [--again N] [--forget N] [--greet] [--replace] [--strict]`
abbrev pub run_options : List Rule
run_options =
    option_rule (codes "wait") ∷ option_rule (codes "again") ∷ option_rule (codes "forget") ∷ flag_rule (codes "greet") ∷ flag_rule (codes "replace")
    ∷ flag_rule (codes "strict") ∷ []

-- those of `undo`: `[--wait MS] [--greet] [--strict]`
abbrev pub undo_options : List Rule
undo_options = option_rule (codes "wait") ∷ flag_rule (codes "greet") ∷ flag_rule (codes "strict") ∷ []

-- those of `pair`: `[--strict] [--list]`
abbrev pub pair_options : List Rule
pair_options = flag_rule (codes "strict") ∷ flag_rule (codes "list") ∷ []

-- those of `apply`: `[--undo FILE] [--replace] [--only-changes] [--all-or-none] [--wait MS] [--again N] [--json]`
abbrev pub apply_options : List Rule
apply_options =
    option_rule (codes "undo") ∷ flag_rule (codes "replace") ∷ flag_rule (codes "only-changes") ∷ flag_rule (codes "all-or-none")
    ∷ option_rule (codes "wait") ∷ option_rule (codes "again") ∷ flag_rule (codes "json") ∷ []

-- those of `revert`: `[--preview] [--wait MS] [--again N] [--json]`
abbrev pub revert_options : List Rule
revert_options = flag_rule (codes "preview") ∷ option_rule (codes "wait") ∷ option_rule (codes "again") ∷ flag_rule (codes "json") ∷ []

-- those of `preview`: `[--wait MS] [--again N] [--json]`
abbrev pub preview_options : List Rule
preview_options = option_rule (codes "wait") ∷ option_rule (codes "again") ∷ flag_rule (codes "json") ∷ []

-- those of `show`: `[--wait MS] [--again N] [--effecters LIST] [--out NAME] [--json]`
abbrev pub show_options : List Rule
show_options =
    option_rule (codes "wait") ∷ option_rule (codes "again") ∷ option_rule (codes "effecters") ∷ option_rule (codes "out") ∷ flag_rule (codes "json") ∷ []

-- a word P1, which may be left out
abbrev pub smbus_rule : Rule
smbus_rule = new_rule (codes "P1")

-- a command with that as its last word
abbrev pub with_smbus_port : App → App
with_smbus_port app = with_rule app smbus_rule

-- behind their options, `serve BOARD P0 P1 TURNS`, `run PLAN P0 P1 TURNS UNDO`, `undo UNDO P0 P1 TURNS`, `pair BOARD PLAN TURNS`, `apply PLAN P0
-- [P1]`, `revert FILE P0 [P1]`, `preview PLAN P0 [P1]` and `show P0 [P1]`
abbrev pub app_named : Task → App
app_named Serve = taking (codes "serve") serve_options (codes "BOARD" ∷ codes "P0" ∷ codes "P1" ∷ codes "TURNS" ∷ [])
app_named Run = taking (codes "run") run_options (codes "PLAN" ∷ codes "P0" ∷ codes "P1" ∷ codes "TURNS" ∷ codes "UNDO" ∷ [])
app_named Undo = taking (codes "undo") undo_options (codes "UNDO" ∷ codes "P0" ∷ codes "P1" ∷ codes "TURNS" ∷ [])
app_named Pair = taking (codes "pair") pair_options (codes "BOARD" ∷ codes "PLAN" ∷ codes "TURNS" ∷ [])
app_named Apply = with_smbus_port (taking (codes "apply") apply_options (codes "PLAN" ∷ codes "P0" ∷ []))
app_named Revert = with_smbus_port (taking (codes "revert") revert_options (codes "FILE" ∷ codes "P0" ∷ []))
app_named Preview = with_smbus_port (taking (codes "preview") preview_options (codes "PLAN" ∷ codes "P0" ∷ []))
app_named Show = with_smbus_port (taking (codes "show") show_options (codes "P0" ∷ []))

-- `bmcnet`, and what it does with one side
abbrev pub serves : App
serves = with_subcommand (with_subcommand (needing_subcommand (new_app (codes "bmcnet"))) (app_named Serve).top) (app_named Run).top

-- `bmcnet`, and what it does in one process, and with a file beside it
abbrev pub pairs : App
pairs = with_subcommand (with_subcommand serves (app_named Undo).top) (app_named Pair).top

-- `bmcnet`, and what it does by a file that takes back at each moment what was done
abbrev pub applies : App
applies = with_subcommand (with_subcommand pairs (app_named Apply).top) (app_named Revert).top

-- and what it does by looks alone
abbrev pub looks : App
looks = with_subcommand (with_subcommand applies (app_named Preview).top) (app_named Show).top

-- `bmcnet`, and what it can do
abbrev pub program : App
program = with_subcommand looks version_app.top
