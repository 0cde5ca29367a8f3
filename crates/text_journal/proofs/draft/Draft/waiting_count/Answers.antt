use Rattle.std.proofs.Common.{codes, arith}
use Rattle.text_journal.proofs.FirstLines.{number_once, refused}
use Rattle.text_journal.proofs.draft.Draft.waiting_count.Goals as goal

pub returns-in_default-clause-none : goal.returns-in_default-clause-none
returns-in_default-clause-none c more next b = c.in_default.ensures.none more b.2.0 (omega (arith, b.2.2)) (b.0, b.1, b.2.1)

pub returns-then-not-may_wait-clause-none : goal.returns-then-not-may_wait-clause-none
returns-then-not-may_wait-clause-none c more next b =
    let same = number_once (codes "waiting ") c.args.text.now c.in-Some.found.1.now more c.in-Some.found.0 b.2.0 c.in-Some.ensures.some.0 (omega (arith, b.2.2)) c.in-Some.ensures.some.1 (b.0, b.1, b.2.1) in
    refused _ _ c.if-not-may_wait.true c.may_wait.ensures (omega (arith, same, b.2.2), omega (arith, same, b.2.3, c.len.ensures.value))
