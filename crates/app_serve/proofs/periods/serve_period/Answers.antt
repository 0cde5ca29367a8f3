use Rattle.std.proofs.Common.{◌+◌, ◌∙◌, ap, sym, List}
use Rattle.std.specs.Borrow.{Bor}
use Rattle.bmc_ports.specs.declared.timetable.Timed.{Timed}
use Rattle.app_serve.proofs.Closing.{closes_period}
use Rattle.app_serve.proofs.periods.serve_period.Goals as goal

pub returns : goal.returns
returns g c =
    let seats = c.in-Ok.opened.1 in
    let sliced = c.in-Ok-run_agenda.sliced in
    let stops = c.stop_rules-stops.ensures in
    let left = c.from-left.ensures in
    let period = c.in-Ok-close_period.period in
    let closed = c.in-Ok-close_period.ensures in record {
      history = period.history;
      period = closes_period g.A.Link g.B.Link c.args.rules.periods c.args.rules.quiet c.stop_rules-stops.result.quiet c.stop_rules-stops.result.events c.args.course g.J.Opening.setup
          g.J.Opening.opening g.J.Opening.room seats c.from-left.result sliced.next sliced.seats sliced.lanes sliced.first_end sliced.second_end sliced.scanner_end period c.from.result.table.next
          c.requires.setup c.requires.opening c.requires.room left.repeats (ap (λ (l : Bor (List Timed)). l.now) left.list) left.next stops.quiet stops.events
          c.in-Ok.ensures.first c.in-Ok.ensures.second c.in-Ok.ensures.scanner c.in-Ok-run_agenda.ensures.back.first c.in-Ok-run_agenda.ensures.back.second
          c.in-Ok-run_agenda.ensures.back.scanner c.in-Ok-run_agenda.ensures.done closed.closed closed.lanes closed.next c.from.ensures.next;
      events = ap (λ n. c.args.course.events + n) c.len.ensures;
      setup_is = closed.setup ∙ sym c.requires.setup;
      list_is = ap (λ (l : Bor (List Timed)). l.now) c.from.ensures.list;
      repeats_is = c.from.ensures.repeats;
    }
