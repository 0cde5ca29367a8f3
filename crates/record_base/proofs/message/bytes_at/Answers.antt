use Rattle.std.proofs.Common.{◌+◌, ◌<◌, length, ◌∙◌, arith}
use Rattle.std.proofs.Math.ListN.{length-set}
use Rattle.record_base.specs.Requests.{byte_at}
use Rattle.record_base.proofs.DataBytes.{copied_more}
use Rattle.record_base.proofs.message.bytes_at.Goals as goal

pub loop-i-preserved : goal.loop-i-preserved
loop-i-preserved g c =
    let (long, so_far) = c.loop-i.invariant in
    let body = c.args.body.now in
    let at = c.args.place + c.loop-i.i in
    let within : c.loop-i.i < length c.loop-i.bytes = omega (arith, long, c.loop-i-test.true) in
    rw c.byte_at.ensures (length-set c.loop-i.bytes c.loop-i.i (byte_at body at) ∙ long, copied_more c.loop-i.bytes body c.args.place c.loop-i.i within so_far)
