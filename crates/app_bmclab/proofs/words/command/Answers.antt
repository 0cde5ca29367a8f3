use Rattle.std.proofs.Common.{◌∙◌, ap}
use Rattle.std.proofs.lemmas.Result.{IfOk-weaker}
use Rattle.clap.specs.Words.{App, with_subcommand}
use Rattle.app_base.specs.Version.{version_app}
use Rattle.app_bmclab.specs.Line.{ask_app, check_app, frame_app, play_app, schedule_app}
use Rattle.app_bmclab.proofs.words.command.Goals as goal

pub returns : goal.returns
returns c =
    let frame = c.in_ok-program-2.ensures frame_app c.frame_command.ensures ∙ ap (λ (a : App). with_subcommand a frame_app.top) c.in_ok-program.ensures in
    let ask = c.in_ok-program-3.ensures ask_app c.ask_command.ensures ∙ ap (λ (a : App). with_subcommand a ask_app.top) frame in
    let play = c.in_ok-program-4.ensures play_app c.play_command.ensures ∙ ap (λ (a : App). with_subcommand a play_app.top) ask in
    let schedule = c.in_ok-program-5.ensures schedule_app c.schedule_command.ensures ∙ ap (λ (a : App). with_subcommand a schedule_app.top) play in
    let check = c.in_ok-program-6.ensures check_app c.check_command.ensures ∙ ap (λ (a : App). with_subcommand a check_app.top) schedule in
    IfOk-weaker c.with_command-6.result _ _
    (λ command adds. adds version_app c.version_command.ensures ∙ ap (λ (a : App). with_subcommand a version_app.top) check) c.with_command-6.ensures
