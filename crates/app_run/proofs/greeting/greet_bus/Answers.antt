use Rattle.app_run.proofs.Greets.{greeted, not_greeted}
use Rattle.app_run.proofs.greeting.greet_bus.Goals as goal

pub returns-in_default : goal.returns-in_default
returns-in_default g c = not_greeted g.L.Link c.args.bus c.args.retries c.args.turns c.args.link.now c.args.next c.in_default.is

pub returns : goal.returns
returns g c =
    greeted g.L.Link c.args.bus c.args.retries c.args.turns c.args.link.now c.args.next c.in-Some.next c.lab_names.result c.new-greeting.result c.drive_greeting-end.new.greeting
    c.drive_greeting-end.result c.unanswered_by.result c.drive_greeting-end.new.link c.in-Some.is c.lab_names.ensures c.new-greeting.ensures c.drive_greeting-end.ensures c.unanswered_by.ensures
