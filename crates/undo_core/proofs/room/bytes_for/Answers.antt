use Rattle.std.proofs.Common.{◌≡◌, Some, sym, ◌∙◌, arith}
use Rattle.std.specs.Prelude.{slice_get}
use Rattle.undo_core.proofs.Rooms.{added, all_added}
use Rattle.undo_core.proofs.room.bytes_for.Goals as goal

pub loop-place-preserved : goal.loop-place-preserved
loop-place-preserved c =
    let there : slice_get c.args.steps.now c.loop-place.place ≡ Some c.unwrap-op.result = sym c.get.ensures ∙ c.unwrap-op.ensures in
    record {
      summed = added c.args.steps.now c.loop-place.place c.loop-place.bytes c.most_bytes-bytes.result c.unwrap-op.result there c.most_bytes-bytes.ensures.value c.loop-place.invariant.summed;
      small = omega (arith, c.most_bytes-bytes.ensures.small, c.loop-place.invariant.small);
    }

pub returns : goal.returns
returns c = all_added c.args.steps.now c.loop-place.place c.loop-place.bytes (omega arith) c.loop-place.invariant.summed
