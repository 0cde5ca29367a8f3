use Rattle.std.proofs.Common.{◌≡◌, take}
use Rattle.wire_links.specs.Trace.{TakesEach}
use Rattle.bmc_shared.proofs.worker.send_all.Given as goal

-- those so far were taken
abbrev pub invariant-loop-frame : goal.invariant-loop-frame
invariant-loop-frame g l =
    TakesEach g.L.Link l.initial.link (take l.frame-index l.frames) l.link
    × ((g.L.Link.counts_of l.link).calls ≡ (g.L.Link.counts_of l.initial.link).calls) × ((g.L.Link.counts_of l.link).heard ≡ (g.L.Link.counts_of l.initial.link).heard)
