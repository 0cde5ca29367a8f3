use Rattle.std.proofs.Common.{length}
use Rattle.bios_attr.proofs.BodyFacts.{SoFar}
use Rattle.bios_attr.proofs.whole_table.count_entries.Given as goal

abbrev pub invariant-loop-rest : goal.invariant-loop-rest
invariant-loop-rest l = SoFar l.table l.bytes l.rest l.count

abbrev pub decreases-loop-rest : goal.decreases-loop-rest
decreases-loop-rest l = length l.rest
