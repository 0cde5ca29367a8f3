use Rattle.lab_play.proofs.Deliveries.{Delivering}
use Rattle.lab_play.proofs.schedule_drawing.Drawing.deliver_from.Given as goal

abbrev pub invariant-loop-number : goal.invariant-loop-number
invariant-loop-number l = Delivering l.first l.number l.initial.self l.self
