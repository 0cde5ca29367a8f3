use Rattle.std.proofs.Common.{◌∙◌, arith}
use Rattle.wire_links.specs.Trace.{Sending}
use Rattle.wire_links.proofs.Counting.{send_keeps}
use Rattle.wire_links.proofs.Tracing.{takes_next, takes_whole}
use Rattle.bmc_shared.proofs.worker.send_all.Goals as goal

pub loop-frame-preserved : goal.loop-frame-preserved
loop-frame-preserved g c =
    let kept = send_keeps c.send.result (g.L.Link.counts_of c.loop-frame.link) (g.L.Link.counts_of c.send.new.self) c.send.ensures.counted in (
      takes_next g.L.Link (λ (answer : Sending). Unit {0}) c.args.link.now c.args.frames.now c.loop-frame.frame-index c.frame-item.result c.send.result c.loop-frame.link c.send.new.self
          c.loop-frame.invariant.0 c.loop-frame-test.true c.frame-item.is tt (record { took = c.send.ensures.took; counted = c.send.ensures.counted }),
      kept.0 ∙ c.loop-frame.invariant.1,
      kept.1 ∙ c.loop-frame.invariant.2,
    )

pub returns-clause-took : goal.returns-clause-took
returns-clause-took g c =
    takes_whole g.L.Link (λ (answer : Sending). Unit {0}) c.args.link.now c.args.frames.now c.loop-frame.frame-index c.loop-frame.link c.loop-frame.invariant.0 (omega arith)
