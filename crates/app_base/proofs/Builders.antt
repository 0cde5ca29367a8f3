-- A command line, as it is built.
use Rattle.std.proofs.Common.{◌≡◌, ◌∙◌, ◌||◌, ◌+◌, ◌<◌, ℕ, Bool, List, [], ◌∷◌, ap, ap₂, fold, get_or, length, map, take}
use Rattle.std.proofs.lemmas.List.{map-append, take_more}
use Rattle.std.proofs.lemmas.List.Sums.{fold_push}
use Rattle.clap.specs.Words.{AddsArg, App, Rule, with_rule}
use Rattle.clap.specs.declared.builder.arg.Arg.{Arg}
use Rattle.clap.specs.declared.builder.command.Command.{Command}
use Rattle.app_base.specs.declared.build.Argument.{Argument}
use Rattle.app_base.specs.Line.{IsArg, IsCommand, argument_rule}

-- a command with one more argument is the one that has its rule
pub adds_rule : (app : App) (rule : Rule) (old new : Command) (arg : Arg) → IsCommand app old → IsArg rule arg → AddsArg old arg new → IsCommand (with_rule app rule) new
adds_rule app rule old new arg is of added =
    (added.shape of.1 ∙ ap₂ with_rule is.0 of.0, added.globals ∙ ap₂ (λ (a b : Bool). a || b) is.1 of.1)

-- the rules of one argument more
pub one_rule_more : (app : App) (arguments : List Argument) (i : ℕ) (d : Argument) → i < length arguments
    → fold with_rule app (map argument_rule (take (i + 1) arguments)) ≡ with_rule (fold with_rule app (map argument_rule (take i arguments))) (argument_rule (get_or arguments i d))
one_rule_more app arguments i d within =
    ap (λ (some : List Argument). fold with_rule app (map argument_rule some)) (take_more arguments i d within)
    ∙ ap (fold with_rule app) (map-append argument_rule (take i arguments) (get_or arguments i d ∷ []))
    ∙ fold_push with_rule app (map argument_rule (take i arguments)) (argument_rule (get_or arguments i d))
