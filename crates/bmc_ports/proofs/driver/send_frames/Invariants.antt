use Rattle.std.proofs.Common.{take}
use Rattle.wire_links.specs.Trace.{SendsAll}
use Rattle.bmc_ports.specs.Driving.{CountsFailures}
use Rattle.bmc_ports.proofs.driver.send_frames.Given as goal

-- those so far were sent
abbrev pub invariant-loop-frame : goal.invariant-loop-frame
invariant-loop-frame g l =
    SendsAll g.L.Link l.initial.link (take l.frame-index l.frames) l.link × CountsFailures 0 (g.L.Link.counts_of l.initial.link) (g.L.Link.counts_of l.link)
