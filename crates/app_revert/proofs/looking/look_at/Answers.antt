use Rattle.std.proofs.Common.{arith}
use Rattle.app_revert.proofs.Eyes.{answered, begins_look, goes_on}
use Rattle.app_revert.proofs.looking.look_at.Goals as goal

pub loop-init : goal.loop-init
loop-init c = begins_look c.args.agains _ c.args.key.now c.args.eye.now c.begin_look-end.new.eye c.begin_look-end.result (omega arith) c.begin_look-end.ensures

pub returns-in_default : goal.returns-in_default
returns-in_default c = answered c.args.agains _ c.args.key.now c.args.eye.now c.loop.eye c.loop.end c.loop.invariant c.in_default.not-Silent

pub loop-preserved : goal.loop-preserved
loop-preserved c =
    goes_on c.args.agains _ _ c.args.key.now c.args.eye.now c.loop.eye c.go_on_looking-end.new.eye c.loop.end c.go_on_looking-end.result
    (omega (arith, c.loop-test.true, c.loop.auto.counter-end)) c.in-Silent.is c.loop.invariant c.go_on_looking-end.ensures
