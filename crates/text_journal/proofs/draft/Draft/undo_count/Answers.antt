use Rattle.std.proofs.Common.{codes, arith}
use Rattle.text_journal.proofs.FirstLines.{number_once}
use Rattle.text_journal.proofs.draft.Draft.undo_count.Goals as goal

pub returns-in_default-clause-none : goal.returns-in_default-clause-none
returns-in_default-clause-none c more next b = c.in_default.ensures.none more b.2.0 (omega (arith, b.2.2)) (b.0, b.1, b.2.1)

pub returns-then-found-gt-MOST_STEPS-clause-none : goal.returns-then-found-gt-MOST_STEPS-clause-none
returns-then-found-gt-MOST_STEPS-clause-none c more next b =
    let same = number_once (codes "undo ") c.args.text.now c.in-Some.found.1.now more c.in-Some.found.0 b.2.0 c.in-Some.ensures.some.0 (omega (arith, b.2.2)) c.in-Some.ensures.some.1 (b.0, b.1, b.2.1) in
    omega (arith, same, b.2.2, c.if-found-gt-MOST_STEPS.true)
