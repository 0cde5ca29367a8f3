use Rattle.std.proofs.Common.{◌≡◌, ◌≤◌, length}
use Rattle.lab_play.specs.Drawn.{HasFew, StaysDrawn}
use Rattle.lab_play.proofs.schedule_making.draw.Given as goal

abbrev pub invariant-loop-offered : goal.invariant-loop-offered
invariant-loop-offered l =
    HasFew l.drawing × (length l.drawing.events.items ≤ l._offered) × (l.drawing.late ≡ l.initial.drawing.late) × StaysDrawn l.initial.drawing l.drawing
