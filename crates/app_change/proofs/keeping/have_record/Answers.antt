use Rattle.std.specs.Prelude.{◌||◌}
use Rattle.std.proofs.Common.{◌≡◌, ◌∙◌, Bool, Some, sym, ap}
use Rattle.std.specs.List.{slice_get}
use Rattle.record_base.specs.Keys.{same_key}
use Rattle.record_kinds.specs.Limits.{key_of}
use Rattle.app_change.proofs.OneMore.{have_more}
use Rattle.app_change.proofs.keeping.have_record.Goals as goal

pub loop-place-preserved : goal.loop-place-preserved
loop-place-preserved c =
    let at : slice_get c.args.steps.now c.loop-place.place ≡ Some c.unwrap-op.result = sym c.get.ensures ∙ c.unwrap-op.ensures in
    record {
      seen = c.has_with-has.ensures ∙ ap (λ (has : Bool). has || same_key (key_of c.unwrap-op.result) c.args.key.now) c.loop-place.invariant.seen
          ∙ sym (have_more c.args.steps.now c.loop-place.place c.unwrap-op.result c.args.key.now at);
    }
