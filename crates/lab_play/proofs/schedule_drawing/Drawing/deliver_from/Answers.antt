use Rattle.std.proofs.Common.{sym, ◌∙◌, subst}
use Rattle.lab_play.specs.declared.schedule_drawing.OfferResult.{OfferResult}
use Rattle.lab_play.specs.Drawn.{OffersEvent}
use Rattle.lab_play.proofs.Deliveries.{frames_are, delivers_ended, delivers_full, delivers_faulty, delivers_more}
use Rattle.lab_play.proofs.schedule_drawing.Drawing.deliver_from.Goals as goal

pub returns-in_default-clause-delivers : goal.returns-in_default-clause-delivers
returns-in_default-clause-delivers c =
    delivers_ended c.args.first c.loop-number.number c.args.self.now c.loop-number.self c.frames.result.now c.loop-number.invariant (frames_are c.loop-number.self c.deref.result.now c.frames.result.now c.deref.ensures c.frames.ensures) (sym c.delivery.ensures ∙ c.in_default.is)

pub returns-in-Faulty-clause-delivers : goal.returns-in-Faulty-clause-delivers
returns-in-Faulty-clause-delivers c =
    delivers_faulty c.args.first c.loop-number.number c.args.self.now c.loop-number.self c.offer.new.self c.frames.result.now c.in-Some.event _ c.loop-number.invariant (frames_are c.loop-number.self c.deref.result.now c.frames.result.now c.deref.ensures c.frames.ensures) (sym c.delivery.ensures ∙ c.in-Some.is)
    (subst (λ (o : OfferResult). OffersEvent c.in-Some.event c.loop-number.self o c.offer.new.self) c.in-Faulty.is c.in_ok-offer.ensures.offered)

pub loop-number-preserved : goal.loop-number-preserved
loop-number-preserved c =
    delivers_more c.args.first c.loop-number.number c.args.self.now c.loop-number.self c.offer.new.self c.frames.result.now c.in-Some.event c.loop-number.invariant (frames_are c.loop-number.self c.deref.result.now c.frames.result.now c.deref.ensures c.frames.ensures) (sym c.delivery.ensures ∙ c.in-Some.is) c.loop-number-test.true
    (subst (λ (o : OfferResult). OffersEvent c.in-Some.event c.loop-number.self o c.offer.new.self) c.in-Taken.is c.in_ok-offer.ensures.offered)
    c.in_ok-offer.ensures.few c.in_ok-offer.ensures.short

pub returns-clause-delivers : goal.returns-clause-delivers
returns-clause-delivers c = delivers_full c.args.first c.loop-number.number c.args.self.now c.loop-number.self c.loop-number.invariant c.loop-number-test.false
