use Rattle.std.proofs.Common.{◌-◌}
use Rattle.model_lab.specs.Meaning.{lab_names}
use Rattle.undo_core.specs.Shown.{Represents}
use Rattle.bmc_ports.specs.Conversation.{links}
use Rattle.bmc_ports.specs.Driving.{both}
use Rattle.app_run.specs.Driven.{DrivenState}
use Rattle.app_run.proofs.Courses.{SeenOn}
use Rattle.app_apply.proofs.Out.{Continues}
use Rattle.app_apply.proofs.driving.drive_out.Given as goal

abbrev pub invariant-loop : goal.invariant-loop
invariant-loop g l =
    ((s : DrivenState) → Represents lab_names l.fn.manager s
    → Continues l.agains l.turns s (both (g.A.Link.counts_of l.fn.ipmb) (g.B.Link.counts_of l.fn.smbus)) (l.agains - l.counter) l.manager (both (g.A.Link.counts_of l.ipmb) (g.B.Link.counts_of l.smbus)))
    × SeenOn g.T.Observer.sees g.A.Link g.B.Link l.fn.manager l.manager l.fn.first l.sent (links l.fn.ipmb l.fn.smbus) (links l.ipmb l.smbus) l.fn.watch l.watch
