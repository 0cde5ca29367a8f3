use Rattle.std.proofs.Common.{◌+◌, inl, [], length}
use Rattle.bmc_board.specs.State.{state_of}
use Rattle.bmc_shared.specs.Replay.{calls_of}
use Rattle.bmc_ports.proofs.Rounds.{clash, fewer, has_turns, takes_turns, turns_left}
use Rattle.app_serve.proofs.Following.{events_one, more_events, runs_from, runs_more, runs_one, turns_one}
use Rattle.app_serve.proofs.periods.serve_periods.Goals as goal

pub returns-then-not-rules-clause-runs : goal.returns-then-not-rules-clause-runs
returns-then-not-rules-clause-runs g c =
    let begun = c.new-begun.result in
    let is = c.new-begun.ensures in
    runs_from g.A.Link g.B.Link c.args.rules.periods c.args.rules.quiet begun.board.setup c.args.board.setup (state_of begun.board) (state_of c.args.board) begun.lanes c.args.lanes
    begun.agenda c.args.agenda c.in-Ok.course is.setup is.state is.lanes is.agenda
    (runs_one g.A.Link g.B.Link c.args.rules.periods c.args.rules.quiet begun c.in-Ok.course is.events c.in-Ok.ensures)

pub loop-init : goal.loop-init
loop-init g c =
    let begun = c.new-begun.result in
    let is = c.new-begun.ensures in
    let goes = c.in-Ok.ensures in (
      runs_from g.A.Link g.B.Link c.args.rules.periods c.args.rules.quiet begun.board.setup c.args.board.setup (state_of begun.board) (state_of c.args.board) begun.lanes c.args.lanes
          begun.agenda c.args.agenda c.in-Ok.course is.setup is.state is.lanes is.agenda
          (runs_one g.A.Link g.B.Link c.args.rules.periods c.args.rules.quiet begun c.in-Ok.course is.events goes),
      c.if-not-rules.false,
      turns_one g.A.Link g.B.Link c.args.rules.periods c.args.rules.quiet begun c.in-Ok.course c.args.lanes is.lanes goes,
      events_one g.A.Link g.B.Link c.args.rules.periods c.args.rules.quiet begun c.in-Ok.course is.events goes,
    )

pub loop-preserved : goal.loop-preserved
loop-preserved g c =
    let inv = c.loop.invariant in
    let goes = c.in-Ok-serve_period.ensures in
    let some = has_turns c.loop.course.lanes.first.turns c.loop.course.lanes.second.turns (λ over. clash c.is_over.result c.if-is_over.false (c.is_over.ensures.1 (inl over))) in
    let takes = takes_turns g.A.Link g.B.Link goes.period.first_end goes.period.second_end [] (calls_of 0 goes.history) [] (calls_of 1 goes.history)
    c.loop.course.lanes c.in-Ok-serve_period.next.lanes goes.period.first goes.period.second some in (
      runs_more g.A.Link g.B.Link c.args.rules.periods c.args.rules.quiet c.args.board.setup (state_of c.args.board) c.args.lanes c.args.agenda c.loop.course c.in-Ok-serve_period.next inv.1 inv.0 goes,
      inv.1,
      fewer (turns_left c.loop.course.lanes) (turns_left c.in-Ok-serve_period.next.lanes) c.loop.counter (turns_left c.args.lanes) inv.2 takes,
      more_events c.loop.course.events (length goes.history) (c.loop.counter + 1) c.in-Ok-serve_period.next.events goes.events goes.period.few inv.3,
    )
