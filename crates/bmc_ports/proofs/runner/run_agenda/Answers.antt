use Rattle.std.proofs.Common.{ap, inl, inr, arith}
use Rattle.bmc_ports.proofs.Rounds.{clash, fewer, not_done, takes_turns, turns_left}
use Rattle.bmc_ports.proofs.Slicing.{back_again}
use Rattle.bmc_ports.proofs.Timing.{played_again, same_played}
use Rattle.bmc_ports.proofs.runner.run_agenda.Goals as goal

pub loop-preserved : goal.loop-preserved
loop-preserved g c =
    let so_far = c.loop.invariant.0 in
    let now = c.loop.sliced in
    let next = c.in-Ok-run_once.next in
    let back = c.in-Ok-run_once.ensures in
    let left = c.from-in-loop.result in
    let agenda = c.args.agenda in
    let on = not_done c.args.rules.quiet now.first_end now.second_end now.scanner_end now.lanes (λ done. clash c.is_done.result c.if-is_done.false (c.is_done.ensures.ends done)) in
    let takes = takes_turns g.A.Link g.B.Link next.first_end next.second_end now.seats.first.calls.items next.seats.first.calls.items
    now.seats.second.calls.items next.seats.second.calls.items now.lanes next.lanes back.first.goes back.second.goes on.3 in (
      record {
        first = back_again g.A.Link c.args.seats.first c.args.lanes.first now.seats.first now.lanes.first now.first_end next.seats.first next.lanes.first next.first_end
            on.0 so_far.first back.first;
        second = back_again g.B.Link c.args.seats.second c.args.lanes.second now.seats.second now.lanes.second now.second_end next.seats.second next.lanes.second
            next.second_end on.1 so_far.second back.second;
        scanner = played_again agenda.repeats agenda.table.list.now agenda.table.next now.next next.next c.args.seats.scanner now.seats.scanner next.seats.scanner now.scanner_end next.scanner_end on.2
            so_far.scanner
            (same_played left.repeats agenda.repeats left.table.list.now agenda.table.list.now left.table.next now.next next.next now.seats.scanner next.seats.scanner next.scanner_end
            c.from-in-loop.ensures.repeats (ap (λ l. l.now) c.from-in-loop.ensures.list) c.from-in-loop.ensures.next back.scanner);
      },
      fewer (turns_left now.lanes) (turns_left next.lanes) c.loop.counter (turns_left c.args.lanes) c.loop.invariant.1 takes,
    )

pub returns-clause-done : goal.returns-clause-done
returns-clause-done g c =
    let left = c.loop.invariant.1 in inl (inr (inl (omega (arith, left), omega (arith, left))))
