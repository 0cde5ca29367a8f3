use Rattle.std.proofs.Common.{length}
use Rattle.report_words.proofs.Body.{IsLeft}
use Rattle.report_words.proofs.table_entries.find_in_body.Given as goal

abbrev pub invariant-loop-rest : goal.invariant-loop-rest
invariant-loop-rest l = IsLeft l.table l.bytes l.rest l.number

abbrev pub decreases-loop-rest : goal.decreases-loop-rest
decreases-loop-rest l = length l.rest
