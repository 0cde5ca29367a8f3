use Rattle.app_serve.specs.Served.{list_in}
use Rattle.app_serve.proofs.Serving.{ends_told, ends_unended, ends_unopened, tallies_told}
use Rattle.app_serve.proofs.run.serve.Goals as goal

pub returns-in-Err-told_ends : goal.returns-in-Err-told_ends
returns-in-Err-told_ends g c =
    ends_unopened g.W.Write.contents g.E.Write.contents (g.F.TextFiles.gives c.args.files.now) c.args.words.now c.in-Ok.inputs c.in-Ok.ensures.hold c.args.console.now c.told_inputs.new.console
    c.told_ends.new.console c.in-Ok.ensures.same c.in-Err-told_ends.status c.in-Err-told_ends.ensures.untold

pub returns-in-Err-ready_board : goal.returns-in-Err-ready_board
returns-in-Err-ready_board g c =
    ends_unended g.W.Write.contents g.E.Write.contents (g.F.TextFiles.gives c.args.files.now) c.args.words.now c.in-Ok.inputs c.in-Ok.ensures.hold c.args.console.now c.told_inputs.new.console
    c.finish.new.console c.in-Ok.ensures.same c.finish.result c.told_ends.new.console c.in-Ok-told_ends.ensures.told c.in-Err-ready_board.why c.finish.ensures

pub returns-in-Ok-serve_periods : goal.returns-in-Ok-serve_periods
returns-in-Ok-serve_periods g c =
    let ready = c.in-Ok-ready_board.ready in
    let begins = c.in-Ok-ready_board.ensures in
    let runs = c.in-Ok-serve_periods.ensures in
    let counts = c.accounted.ensures in
    ends_told g.W.Write.contents g.E.Write.contents (g.F.TextFiles.gives c.args.files.now) c.args.words.now c.in-Ok.inputs c.in-Ok.ensures.hold c.args.console.now c.told_inputs.new.console
    c.tell_served.new.console c.in-Ok.ensures.same c.tell_served.result c.told_ends.new.console c.in-Ok-told_ends.ensures.told c.accounted.result
    (tallies_told _ _ c.args.words.now c.in-Ok.inputs.file (list_in c.in-Ok.inputs.readings) ready.begun c.agenda_of-agenda.result ready.lanes c.in-Ok-serve_periods.course
    c.accounted.result begins.begun c.agenda_of-agenda.ensures begins.ipmb begins.smbus runs.runs runs.ends counts.events counts.changed counts.changes)
    c.tell_served.ensures.tally c.tell_served.ensures.unended

pub returns : goal.returns
returns g c =
    ends_unended g.W.Write.contents g.E.Write.contents (g.F.TextFiles.gives c.args.files.now) c.args.words.now c.in-Ok.inputs c.in-Ok.ensures.hold c.args.console.now c.told_inputs.new.console
    c.finish-in-Err-serve_periods.new.console c.in-Ok.ensures.same c.finish-in-Err-serve_periods.result c.told_ends.new.console c.in-Ok-told_ends.ensures.told
    c.in-Err-serve_periods.why c.finish-in-Err-serve_periods.ensures
