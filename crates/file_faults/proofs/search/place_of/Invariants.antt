use Rattle.std.proofs.Common.{IfSome}
use Rattle.file_faults.specs.Places.{IsFound}
use Rattle.file_faults.proofs.search.place_of.Given as goal

abbrev pub invariant-loop-expression : goal.invariant-loop-expression
invariant-loop-expression l = IfSome l.head (IsFound l.text l.wanted)
