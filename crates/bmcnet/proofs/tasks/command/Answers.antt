use Rattle.std.proofs.Common.{◌∙◌, ap}
use Rattle.std.proofs.lemmas.Result.{IfOk-weaker}
use Rattle.clap.specs.Words.{App, with_subcommand}
use Rattle.app_base.specs.Version.{version_app}
use Rattle.bmcnet.specs.Line.{app_named}
use Rattle.bmcnet.specs.declared.tasks.Task.TheVariants.{Serve, Run, Undo, Pair, Apply, Revert, Preview, Show}
use Rattle.bmcnet.proofs.tasks.command.Goals as goal

pub returns : goal.returns
returns c =
    let serve = c.in_ok-program-2.ensures (app_named Serve) c.serve_command.ensures ∙ ap (λ (a : App). with_subcommand a (app_named Serve).top) c.in_ok-program.ensures in
    let run = c.in_ok-program-3.ensures (app_named Run) c.run_command.ensures ∙ ap (λ (a : App). with_subcommand a (app_named Run).top) serve in
    let undo = c.in_ok-program-4.ensures (app_named Undo) c.undo_command.ensures ∙ ap (λ (a : App). with_subcommand a (app_named Undo).top) run in
    let pair = c.in_ok-program-5.ensures (app_named Pair) c.pair_command.ensures ∙ ap (λ (a : App). with_subcommand a (app_named Pair).top) undo in
    let apply = c.in_ok-program-6.ensures (app_named Apply) c.apply_command.ensures ∙ ap (λ (a : App). with_subcommand a (app_named Apply).top) pair in
    let revert = c.in_ok-program-7.ensures (app_named Revert) c.revert_command.ensures ∙ ap (λ (a : App). with_subcommand a (app_named Revert).top) apply in
    let preview = c.in_ok-program-8.ensures (app_named Preview) c.preview_command.ensures ∙ ap (λ (a : App). with_subcommand a (app_named Preview).top) revert in
    let show = c.in_ok-program-9.ensures (app_named Show) c.show_command.ensures ∙ ap (λ (a : App). with_subcommand a (app_named Show).top) preview in
    IfOk-weaker c.with_command-9.result _ _
    (λ command adds. adds version_app c.version_command.ensures ∙ ap (λ (a : App). with_subcommand a version_app.top) show) c.with_command-9.ensures
