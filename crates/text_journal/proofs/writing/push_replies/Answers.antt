use Rattle.std.proofs.Common.{arith, codes}
use Rattle.text_journal.proofs.WrittenBytes.{written_bytes}
use Rattle.text_journal.proofs.writing.push_replies.Goals as goal

pub returns-then-is_empty-clause-line : goal.returns-then-is_empty-clause-line
returns-then-is_empty-clause-line c = written_bytes (codes "replies ") c.args.replies.now (λ i. omega (arith, c.type_inv.replies i))
