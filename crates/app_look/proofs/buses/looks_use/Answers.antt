use Rattle.std.specs.Prelude.{◌||◌}
use Rattle.std.proofs.Common.{◌∙◌, length, refl, ap, arith}
use Rattle.two_wire.specs.declared.Bus.{Bus}
use Rattle.model_undo.specs.Machine.{same_bus}
use Rattle.std.proofs.lemmas.Option.{slice_get_read}
use Rattle.app_look.specs.Findings.{bus_at}
use Rattle.app_run.proofs.Used.{used_more}
use Rattle.app_look.proofs.buses.looks_use.Goals as goal

pub loop-key-preserved : goal.loop-key-preserved
loop-key-preserved c = record {
  seen = c.is_used_with-used.ensures ∙ ap (λ (other : Bus). c.loop-key.used || same_bus c.args.bus other) c.bus_of.ensures
      ∙ used_more bus_at c.args.bus c.args.keys.now c.loop-key.key-index c.key-item.result c.loop-key.used
      (slice_get_read c.args.keys.now (length c.args.keys.now) c.loop-key.key-index c.key-item.result refl (omega arith) c.key-item.is) c.loop-key.invariant.seen;
}
