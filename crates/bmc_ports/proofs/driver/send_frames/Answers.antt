use Rattle.std.proofs.Common.{◌≡◌, refl, arith}
use Rattle.std.specs.Prelude.{Ok, Err}
use Rattle.wire_links.specs.Trace.{Sending}
use Rattle.wire_links.proofs.Tracing.{takes_next, takes_whole, up_to_fault}
use Rattle.bmc_ports.proofs.Turns.{nothing_more, nothing_then}
use Rattle.bmc_ports.proofs.driver.send_frames.Goals as goal

pub loop-frame-preserved : goal.loop-frame-preserved
loop-frame-preserved g c = (
  takes_next g.L.Link (λ (answer : Sending). answer ≡ Ok tt) c.args.link.now c.args.frames.now c.loop-frame.frame-index c.frame-item.result (Ok tt) c.loop-frame.link c.send.new.self
      c.loop-frame.invariant.0 c.loop-frame-test.true c.frame-item.is refl (record { took = c.in-Ok.ensures.took; counted = c.in-Ok.ensures.counted }),
  nothing_more (g.L.Link.counts_of c.args.link.now) (g.L.Link.counts_of c.loop-frame.link) (g.L.Link.counts_of c.send.new.self) c.loop-frame.invariant.1 c.in-Ok.ensures.counted,
)

pub returns-in-Err-clause-sends : goal.returns-in-Err-clause-sends
returns-in-Err-clause-sends g c =
    up_to_fault g.L.Link c.args.link.now c.args.frames.now c.loop-frame.frame-index c.frame-item.result c.in-Err.fault c.loop-frame.link c.send.new.self
    c.loop-frame.invariant.0 c.loop-frame-test.true c.frame-item.is (record { took = c.in-Err.ensures.took; counted = c.in-Err.ensures.counted })

pub returns-in-Err-clause-counts : goal.returns-in-Err-clause-counts
returns-in-Err-clause-counts g c =
    nothing_then c.in-Err.fault (g.L.Link.counts_of c.args.link.now) (g.L.Link.counts_of c.loop-frame.link) (g.L.Link.counts_of c.send.new.self) c.loop-frame.invariant.1 c.in-Err.ensures.counted

pub returns-clause-sends : goal.returns-clause-sends
returns-clause-sends g c =
    takes_whole g.L.Link (λ (answer : Sending). answer ≡ Ok tt) c.args.link.now c.args.frames.now c.loop-frame.frame-index c.loop-frame.link c.loop-frame.invariant.0 (omega arith)
