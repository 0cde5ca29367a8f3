use Rattle.std.specs.Prelude.{◌||◌}
use Rattle.std.proofs.Common.{◌≡◌, ◌∙◌, Some, sym, ap}
use Rattle.std.specs.List.{slice_get}
use Rattle.two_wire.specs.declared.Bus.{Bus}
use Rattle.model_undo.specs.Machine.{same_bus}
use Rattle.app_run.specs.Buses.{bus_of_step}
use Rattle.app_run.proofs.Used.{used_more}
use Rattle.app_run.proofs.buses.steps_use.Goals as goal

pub loop-place-preserved : goal.loop-place-preserved
loop-place-preserved c =
    let at : slice_get c.args.steps.now c.loop-place.place ≡ Some c.unwrap-op.result = sym c.get.ensures ∙ c.unwrap-op.ensures in
    record {
      seen = c.is_used_with-used.ensures ∙ ap (λ (other : Bus). c.loop-place.used || same_bus c.args.bus other) c.bus_of_step.ensures
          ∙ used_more bus_of_step c.args.bus c.args.steps.now c.loop-place.place c.unwrap-op.result c.loop-place.used at c.loop-place.invariant.seen;
    }
