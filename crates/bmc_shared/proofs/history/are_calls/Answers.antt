use Rattle.std.specs.Prelude.{slice_get}
use Rattle.std.proofs.Common.{rules, ◌≡◌, ◌==◌, ◌+◌, ◌↔◌, ◌<◌, ℕ, List, [], drop, length, Some, true, false, arith, ap, sym, subst, ◌∙◌}
use Rattle.std.proofs.lemmas.Bool.{eq-eqb, eqb-true}
use Rattle.std.proofs.lemmas.List.{drop_all, length-drop}
use Rattle.std.proofs.lemmas.Option.{slice_get_within}
use Rattle.bmc_shared.specs.declared.event.Call.{Call}
use Rattle.bmc_shared.specs.declared.event.Event.{Event}
use Rattle.bmc_shared.specs.Replay.{calls_of}
use Rattle.bmc_shared.proofs.Comparing.{passes, agrees, has_next}
use Rattle.bmc_shared.proofs.history.are_calls.Goals as goal
use Rattle.bmc_shared.proofs.history.are_calls.Goals.{then-event-seat+else-not-is_at, else-event-seat}

pub returns-then-not-is_at : goal.returns-then-not-is_at
returns-then-not-is_at c =
    let events : List Event = c.args.events.now.items in
    let calls : List Call = c.args.calls.now.items in
    let there : slice_get events c.loop-place.place ≡ Some c.in-Some.event = search rules in
    let own : (c.in-Some.event.seat == c.args.seat) ≡ true = search rules in
    let next : calls_of c.args.seat events ≡ calls → slice_get calls c.loop-place.found ≡ Some c.in-Some.event.call =
    has_next c.args.seat events calls c.loop-place.place c.loop-place.found c.in-Some.event there own c.loop-place.invariant.2 in
    search (rules, next)

pub loop-place-preserved : goal.loop-place-preserved
loop-place-preserved c =
    let events : List Event = c.args.events.now.items in
    let calls : List Call = c.args.calls.now.items in
    elim c.if-event-seat.branch [
      | then-event-seat+else-not-is_at w ↦
          let there : slice_get events c.loop-place.place ≡ Some c.in-Some.event = search rules in
          let own : (c.in-Some.event.seat == c.args.seat) ≡ true = search rules in
          let next : slice_get calls c.loop-place.found ≡ Some c.in-Some.event.call = search rules in
          let low : c.loop-place.found < length calls = slice_get_within calls c.loop-place.found c.in-Some.event.call next in
          let one : c.if-event-seat.found ≡ c.loop-place.found + 1 = search rules in
          let step = agrees c.args.seat events calls c.loop-place.place c.loop-place.found c.in-Some.event there own next c.loop-place.invariant.2 in (
            omega (arith, low, one),
            omega (arith, c.loop-place.invariant.1, one),
            subst (λ (n : ℕ). (calls_of c.args.seat events ≡ calls) ↔ (calls_of c.args.seat (drop (c.loop-place.place + 1) events) ≡ drop n calls)) (sym one) step,
          )
      | else-event-seat w ↦
          let there : slice_get events c.loop-place.place ≡ Some c.in-Some.event = search rules in
          let other : (c.in-Some.event.seat == c.args.seat) ≡ false = search rules in
          let one : c.if-event-seat.found ≡ c.loop-place.found = search rules in
          let step = passes c.args.seat events calls c.loop-place.place c.loop-place.found c.in-Some.event there other c.loop-place.invariant.2 in (
            omega (arith, c.loop-place.invariant.0, one),
            omega (arith, c.loop-place.invariant.1, one),
            subst (λ (n : ℕ). (calls_of c.args.seat events ≡ calls) ↔ (calls_of c.args.seat (drop (c.loop-place.place + 1) events) ≡ drop n calls)) (sym one) step,
          )
    ]

pub returns : goal.returns
returns c =
    let events : List Event = c.args.events.now.items in
    let calls : List Call = c.args.calls.now.items in
    let found : ℕ = c.loop-place.found in
    let inv = c.loop-place.invariant in
    let many : c.len.result ≡ length calls = c.len.ensures in
    let end : drop c.loop-place.place events ≡ [] = drop_all c.loop-place.place events (omega (arith, c.len-place-end.ensures)) in
    let none : calls_of c.args.seat (drop c.loop-place.place events) ≡ [] = ap (calls_of c.args.seat) end in (
      (λ whole. inv.2.1 (none ∙ sym (drop_all found calls (omega (arith, many, eqb-true found c.len.result whole))))),
      (λ same. let left : length (drop found calls) ≡ 0 = ap length (sym (inv.2.0 same) ∙ none) in
          eq-eqb found c.len.result (omega (arith, many, inv.0, sym (length-drop found calls) ∙ left))),
    )
