use Rattle.std.proofs.Common.{arith}
use Rattle.app_show.proofs.Files.{plans_to}
use Rattle.app_show.proofs.writing.full_texts.Goals as goal

pub loop-place-preserved : goal.loop-place-preserved
loop-place-preserved c =
    plans_to c.loop-place.texts.items c.push.new.self.items c.args.full.now c.loop-place.place c.in-Some.text c.index-full-place.result (omega arith) c.index-full-place.is c.loop-place.invariant
    (rw c.in-Some.is at c.in_ok-text.ensures) c.in_ok-push.ensures.items
