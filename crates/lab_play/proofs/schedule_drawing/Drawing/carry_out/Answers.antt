use Rattle.std.proofs.Common.{◌<◌, length, subst, arith}
use Rattle.text_lines.specs.declared.event.Event.TheVariants.{Calls}
use Rattle.lab_play.specs.declared.schedule_drawing.OfferResult.{OfferResult}
use Rattle.lab_play.specs.Drawn.{OffersEvent}
use Rattle.lab_play.proofs.Deliveries.{frames_are}
use Rattle.lab_play.proofs.Carried.{carries_full, carries_on}
use Rattle.lab_play.proofs.schedule_drawing.Drawing.carry_out.Goals as goal

pub returns-in_default-clause-carries : goal.returns-in_default-clause-carries
returns-in_default-clause-carries c =
    let many : length c.frames.result.now < 4294967296 → ⊥ = c.in_default.ensures in
    carries_full c.args.call c.args.self.now c.frames.result.now (frames_are c.args.self.now c.deref.result.now c.frames.result.now c.deref.ensures c.frames.ensures) (omega (arith, many))

pub returns-in-Taken-clause-carries : goal.returns-in-Taken-clause-carries
returns-in-Taken-clause-carries c =
    carries_on c.deliver_from.result c.args.call c.args.self.now c.offer.new.self c.deliver_from.new.self c.frames.result.now c.in-Ok.first (frames_are c.args.self.now c.deref.result.now c.frames.result.now c.deref.ensures c.frames.ensures) c.in-Ok.ensures.1
    (subst (λ (o : OfferResult). OffersEvent (Calls c.args.call) c.args.self.now o c.offer.new.self) c.in-Taken.is c.in_ok-offer.ensures.offered)
    c.deliver_from.ensures.delivers
