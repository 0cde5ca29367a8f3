use Rattle.std.proofs.Common.{take}
use Rattle.app_play.specs.Arrivals.{HoldsNotes}
use Rattle.app_play.proofs.arrivals.Arrivals.of.Given as goal

abbrev pub invariant-loop-note : goal.invariant-loop-note
invariant-loop-note l = HoldsNotes l.arrivals (take l.note-index l.notes)
