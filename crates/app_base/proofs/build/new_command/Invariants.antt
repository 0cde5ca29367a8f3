use Rattle.std.proofs.Common.{fold, map, take}
use Rattle.clap.specs.Words.{new_app, with_rule}
use Rattle.app_base.specs.Line.{IsCommand, argument_rule}
use Rattle.app_base.proofs.build.new_command.Given as goal

abbrev pub invariant-loop-argument : goal.invariant-loop-argument
invariant-loop-argument l = IsCommand (fold with_rule (new_app l.name) (map argument_rule (take l.argument-index l.arguments))) l.command
