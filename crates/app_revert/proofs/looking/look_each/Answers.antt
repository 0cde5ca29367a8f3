use Rattle.std.proofs.Common.{arith, refl}
use Rattle.app_revert.proofs.Eyes.{each_more, each_there}
use Rattle.app_revert.proofs.looking.look_each.Goals as goal

pub loop-place-init : goal.loop-place-init
loop-place-init c = (refl, refl)

pub loop-place-preserved : goal.loop-place-preserved
loop-place-preserved c =
    each_more c.args.agains c.args.list.now.members c.loop-place.place c.args.eye.now c.args.looked.now c.loop-place.eye c.loop-place.looked c.look_place.new.eye c.look_place.new.looked
    c.loop-place.invariant c.in_ok-look_place.ensures

pub returns : goal.returns
returns c =
    each_there c.args.agains c.args.list.now.members c.loop-place.place c.args.eye.now c.args.looked.now c.loop-place.eye c.loop-place.looked
    (omega (arith, c.loop-place-test.false, c.len-place-end.ensures.value)) c.loop-place.invariant
