use Rattle.std.proofs.Common.{◌-◌}
use Rattle.model_lab.specs.Meaning.{lab_names}
use Rattle.undo_core.specs.Shown.{Represents}
use Rattle.bmc_ports.specs.Conversation.{frames_given, links}
use Rattle.bmc_ports.specs.Driving.{both}
use Rattle.bmc_ports.specs.Observing.{MaySend, Observed, permit_for}
use Rattle.app_run.specs.Driven.{DrivenState}
use Rattle.app_run.proofs.Tries.{Going}
use Rattle.app_run.proofs.trying.drive_heeded.Given as goal

abbrev pub invariant-loop-made : goal.invariant-loop-made
invariant-loop-made g l =
    ((s : DrivenState) → Represents lab_names l.fn.manager s → Going (l.made - 1) s l.manager (both (g.A.Link.counts_of l.fn.ipmb) (g.B.Link.counts_of l.fn.smbus)) (both (g.A.Link.counts_of l.ipmb) (g.B.Link.counts_of l.smbus)))
    × Observed g.T.Observer.sees g.A.Link g.B.Link (permit_for (frames_given l.fn.first)) l.fn.first l.fn.manager l.manager (links l.fn.ipmb l.fn.smbus) (links l.ipmb l.smbus) MaySend l.fn.watch l.watch
