use Rattle.std.proofs.Common.{rules, Some, slice_get, ◌≡◌, ◌++◌, ◌<◌, List, [], ◌∷◌, length, ap, arith, ◌∙◌, refl}
use Rattle.std.proofs.lemmas.List.{append_assoc, length-append}
use Rattle.std.proofs.lemmas.Option.{slice_get_read}
use Rattle.bmc_shared.specs.declared.event.Call.{Call}
use Rattle.bmc_shared.specs.declared.event.Call.TheVariants.{Benched}
use Rattle.bmc_ports.proofs.Scanning.{happens_on}
use Rattle.bmc_ports.proofs.scanner.scan.Goals as goal

pub loop-turn-preserved : goal.loop-turn-preserved
loop-turn-preserved g c =
    let inv = c.loop-turn.invariant in
    let call : Call = Benched c.in-Some.event.now c.in-Ok.field-0 in
    let within : c.loop-turn.turn < length c.args.bench.now = search rules in
    let at : slice_get c.args.bench.now c.loop-turn.turn ≡ Some c.in-Some.event.now =
    slice_get_read c.args.bench.now (length c.args.bench.now) c.loop-turn.turn c.in-Some.event.now refl within c.in-Some.ensures.lookup.1 in (
      inv.0 ++ call ∷ [],
      c.in-Ok.ensures.kept ∙ ap (λ (calls : List Call). calls ++ call ∷ []) inv.1 ∙ append_assoc c.args.seat.now.calls.items inv.0 (call ∷ []),
      happens_on c.args.bench.now c.loop-turn.turn c.in-Some.event.now inv.0 call inv.2 at (c.in-Ok.field-0, refl),
      omega (arith, length-append inv.0 (call ∷ []), inv.3),
      omega (arith, within),
      c.in-Ok.ensures.seat.mark ∙ inv.5,
      c.in-Ok.ensures.seat.number ∙ inv.6,
    )
