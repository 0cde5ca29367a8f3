-- A command line, as clap has it.
use Rattle.std.specs.Prelude.{◌≡◌, true, false, Some}
use Rattle.clap.specs.Lexer.{usize_max}
use Rattle.clap.specs.Words.{App, Rule, Text, app_of, new_rule, rule_of}
use Rattle.app_base.specs.declared.build.Argument.{Argument}
use Rattle.app_base.specs.declared.build.Argument.TheVariants.{Flag, Option as Optional, Needed, Several}
use Rattle.clap.specs.declared.builder.ArgAction.TheVariants.{SetTrue}
use Rattle.clap.specs.declared.builder.arg.Arg.{Arg}
use Rattle.clap.specs.declared.builder.command.Command.{Command}
use Rattle.clap.specs.declared.builder.command.Command.TheViews.{out-Command}

-- an option of this name, whose value has one name
abbrev pub option_rule : Text → Rule
option_rule name = record (new_rule name) { long = Some name; value_names = 1 }

-- a flag of this name
abbrev pub flag_rule : Text → Rule
flag_rule name = record (new_rule name) { long = Some name; action = Some SetTrue }

-- a word that must be there
abbrev pub needed_rule : Text → Rule
needed_rule name = record (new_rule name) { required = true }

-- words of which at least one must be there
abbrev pub several_rule : Text → Rule
several_rule name = record (new_rule name) { required = true; range = Some (record { start_inclusive = 1; end_inclusive = usize_max }) }

-- the rule of an argument, by its name
abbrev pub argument_rule : Argument → Rule
argument_rule (Flag name help) = flag_rule name.now
argument_rule (Optional name value help) = option_rule name.now
argument_rule (Needed name help) = needed_rule name.now
argument_rule (Several name help) = several_rule name.now

-- one of the command's subcommands must be used
abbrev pub needing_subcommand : App → App
needing_subcommand app = record app { top = record app.top { subcommand_required = true } }

-- the argument is of this rule, and of one command alone
abbrev pub IsArg : Rule → Arg → Type 0
IsArg rule arg = (rule_of arg ≡ rule) × (arg.global ≡ false)

-- the command is this one, and none of its arguments goes to others
abbrev pub IsCommand : App → Command → Type 0
IsCommand app command = (app_of command ≡ app) × ((out-Command command).has_globals ≡ false)
