use Rattle.std.proofs.Common.{take}
use Rattle.app_show.specs.Plans.{ArePlans}
use Rattle.app_show.proofs.writing.full_texts.Given as goal

abbrev pub invariant-loop-place : goal.invariant-loop-place
invariant-loop-place l = ArePlans l.texts.items (take l.place l.full)
