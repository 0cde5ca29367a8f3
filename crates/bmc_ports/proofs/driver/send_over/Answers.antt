use Rattle.std.proofs.Common.{ℕ, List, sym, subst, refl}
use Rattle.two_wire.specs.declared.Bus.{Bus}
use Rattle.wire_links.specs.Trace.{SendsTo}
use Rattle.bmc_ports.specs.Conversation.{SendsOn, links}
use Rattle.bmc_ports.proofs.Turns.{frames_counted, frames_failed, counted_frames, failed_frames}
use Rattle.bmc_ports.proofs.driver.send_over.Goals as goal

pub returns-in-Ipmb-clause-over : goal.returns-in-Ipmb-clause-over
returns-in-Ipmb-clause-over g c =
    subst (λ (on : Bus). SendsOn g.A.Link g.B.Link on (links c.args.ipmb.now c.args.smbus.now) c.args.sent.now.frames.items c.send_frames.result (links c.send_frames.new.link c.args.smbus.now))
    (sym c.in-Ipmb.is)
    (subst (λ (frames : List (List ℕ)). SendsTo g.A.Link c.send_frames.result c.args.ipmb.now frames c.send_frames.new.link) c.as_slice.ensures.value c.send_frames.ensures.sends, refl)

pub returns-in-Ipmb-clause-done : goal.returns-in-Ipmb-clause-done
returns-in-Ipmb-clause-done g c =
    frames_counted c.send_frames.result (g.A.Link.counts_of c.args.ipmb.now) (g.A.Link.counts_of c.send_frames.new.link) (g.B.Link.counts_of c.args.smbus.now) c.send_frames.ensures.counts

pub returns-in-Ipmb-clause-fails : goal.returns-in-Ipmb-clause-fails
returns-in-Ipmb-clause-fails g c =
    frames_failed c.send_frames.result (g.A.Link.counts_of c.args.ipmb.now) (g.A.Link.counts_of c.send_frames.new.link) (g.B.Link.counts_of c.args.smbus.now) c.send_frames.ensures.counts

pub returns-in-Smbus-clause-over : goal.returns-in-Smbus-clause-over
returns-in-Smbus-clause-over g c =
    subst (λ (on : Bus). SendsOn g.A.Link g.B.Link on (links c.args.ipmb.now c.args.smbus.now) c.args.sent.now.frames.items c.send_frames-in-Smbus.result
    (links c.args.ipmb.now c.send_frames-in-Smbus.new.link)) (sym c.in-Smbus.is) (
      subst (λ (frames : List (List ℕ)). SendsTo g.B.Link c.send_frames-in-Smbus.result c.args.smbus.now frames c.send_frames-in-Smbus.new.link) c.as_slice-in-Smbus.ensures.value
          c.send_frames-in-Smbus.ensures.sends,
      refl,
    )

pub returns-in-Smbus-clause-done : goal.returns-in-Smbus-clause-done
returns-in-Smbus-clause-done g c =
    counted_frames c.send_frames-in-Smbus.result (g.B.Link.counts_of c.args.smbus.now) (g.B.Link.counts_of c.send_frames-in-Smbus.new.link) (g.A.Link.counts_of c.args.ipmb.now)
    c.send_frames-in-Smbus.ensures.counts

pub returns-in-Smbus-clause-fails : goal.returns-in-Smbus-clause-fails
returns-in-Smbus-clause-fails g c =
    failed_frames c.send_frames-in-Smbus.result (g.B.Link.counts_of c.args.smbus.now) (g.B.Link.counts_of c.send_frames-in-Smbus.new.link) (g.A.Link.counts_of c.args.ipmb.now)
    c.send_frames-in-Smbus.ensures.counts
