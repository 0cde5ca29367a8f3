use Rattle.std.specs.Prelude.{◌||◌}
use Rattle.std.proofs.Common.{◌∙◌, ap}
use Rattle.two_wire.specs.declared.Bus.{Bus}
use Rattle.model_undo.specs.Machine.{same_bus}
use Rattle.bmc_core.specs.Wires.{bus_of}
use Rattle.undo_plans.specs.Requests.{meant}
use Rattle.app_run.proofs.Used.{used_more}
use Rattle.app_run.proofs.buses.requests_use.Goals as goal

pub loop-place-preserved : goal.loop-place-preserved
loop-place-preserved c =
    let at = rw c.unwrap-request.ensures at c.get.ensures.there in
    record {
      seen = c.is_used_with-used.ensures ∙ ap (λ (other : Bus). c.loop-place.used || same_bus c.args.bus other) c.bus_of_undo.ensures
          ∙ used_more bus_of c.args.bus c.args.requests.now.members c.loop-place.place (meant c.unwrap-request.result) c.loop-place.used at c.loop-place.invariant.seen;
    }
