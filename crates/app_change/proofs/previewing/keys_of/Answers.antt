use Rattle.std.proofs.Common.{rules, ◌<◌, length}
use Rattle.app_change.proofs.LookedAt.{keys_more}
use Rattle.app_change.proofs.previewing.keys_of.Goals as goal

pub loop-place-preserved : goal.loop-place-preserved
loop-place-preserved c =
    let within : c.loop-place.place < length c.args.steps.now = search rules in
    keys_more c.args.steps.now c.loop-place.place c.loop-place.keys.items c.push.new.self.items c.key_at.result within c.loop-place.invariant c.key_at.ensures c.in_ok-push.ensures.items
