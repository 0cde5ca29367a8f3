use Rattle.std.proofs.Common.{◌≡◌, ◌∙◌, refl, sym, subst, ℕ, Bool, Some}
use Rattle.bmc_shared.specs.declared.event.Call.{Call}
use Rattle.bmc_shared.specs.declared.event.Call.TheVariants.{Benched}
use Rattle.bmc_ports.specs.Timing.{GainsCalls, event_at}
use Rattle.bmc_ports.proofs.Timing.{gains_more}
use Rattle.bmc_ports.proofs.happening.happen_by_agenda.Goals as goal

pub returns-then-bring-clause-gains : goal.returns-then-bring-clause-gains
returns-then-bring-clause-gains g c =
    let inv = c.loop-place.invariant in
    let agenda = c.args.agenda.now in
    let place = c.loop-place.place in
    let event = c.in-Some.timed.event in
    let call : Call = Benched event c.in-Ok.field-0 in
    let at = subst (λ (r : Bool). event_at r agenda.table.list.now place ≡ Some event) inv.4
    (subst (λ l. event_at c.loop-place.agenda.repeats l.now place ≡ Some event) inv.2 (sym c.in-Some.ensures)) in
    let before = subst (λ (to : ℕ). GainsCalls agenda.repeats agenda.table.list.now agenda.table.next to c.args.seat.now.calls.items c.loop-place.seat.calls.items) inv.1 inv.0 in
    gains_more agenda.repeats agenda.table.list.now agenda.table.next place c.args.seat.now.calls.items c.loop-place.seat.calls.items c.bench.new.seat.calls.items call event
    before at c.in-Ok.ensures.kept (c.in-Ok.field-0, refl)

pub loop-place-preserved : goal.loop-place-preserved
loop-place-preserved g c =
    let inv = c.loop-place.invariant in
    let agenda = c.args.agenda.now in
    let place = c.loop-place.place in
    let event = c.in-Some.timed.event in
    let call : Call = Benched event c.in-Ok.field-0 in
    let at = subst (λ (r : Bool). event_at r agenda.table.list.now place ≡ Some event) inv.4
    (subst (λ l. event_at c.loop-place.agenda.repeats l.now place ≡ Some event) inv.2 (sym c.in-Some.ensures)) in
    let before = subst (λ (to : ℕ). GainsCalls agenda.repeats agenda.table.list.now agenda.table.next to c.args.seat.now.calls.items c.loop-place.seat.calls.items) inv.1 inv.0 in (
      gains_more agenda.repeats agenda.table.list.now agenda.table.next place c.args.seat.now.calls.items c.loop-place.seat.calls.items c.bench.new.seat.calls.items call event
          before at c.in-Ok.ensures.kept (c.in-Ok.field-0, refl),
      refl,
      inv.2,
      inv.3,
      inv.4,
      c.in-Ok.ensures.seat.mark ∙ inv.5,
      c.in-Ok.ensures.seat.number ∙ inv.6,
    )
