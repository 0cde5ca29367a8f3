use Rattle.std.proofs.Common.{[], arith}
use Rattle.app_show.specs.Keys.{ids_keys}
use Rattle.app_show.proofs.Pushed.{keys_to}
use Rattle.app_show.proofs.keys.effecter_keys.Goals as goal

pub loop-place-preserved : goal.loop-place-preserved
loop-place-preserved c =
    keys_to ids_keys [] c.loop-place.keys.items c.push_effecters.new.keys.items c.args.effecters.now c.loop-place.place _ (omega arith) c.loop-place.invariant
    c.in_ok-push_effecters.ensures
