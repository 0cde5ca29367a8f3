use Rattle.std.proofs.Common.{rules}
use Rattle.app_change.proofs.OneMore.{keys_next}
use Rattle.app_change.proofs.keep_look.keys_of.Goals as goal

pub loop-place-preserved : goal.loop-place-preserved
loop-place-preserved c =
    keys_next c.args.steps.now c.loop-place.place c.key_at.result c.loop-place.keys.items c.push.new.self.items (search rules) c.loop-place.invariant c.key_at.ensures
    c.in_ok-push.ensures.items
