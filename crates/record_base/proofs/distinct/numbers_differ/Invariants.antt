use Rattle.std.proofs.Common.{take}
use Rattle.record_base.specs.Distinct.{NamesDiffer}
use Rattle.record_base.proofs.distinct.numbers_differ.Given as goal

abbrev pub invariant-loop-place : goal.invariant-loop-place
invariant-loop-place g l = NamesDiffer g.T.Numbered.number_of (take l.place l.items)
