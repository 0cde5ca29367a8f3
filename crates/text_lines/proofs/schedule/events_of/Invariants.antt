use Rattle.std.proofs.Common.{map, take}
use Rattle.text_lines.specs.Schedule.{AreLinesOf}
use Rattle.text_lines.proofs.schedule.events_of.Given as goal

abbrev pub invariant-loop-place : goal.invariant-loop-place
invariant-loop-place l = AreLinesOf (map (λ x. x.now) (take l.place l.lines)) l.events.items
