use Rattle.std.proofs.Common.{sym, subst}
use Rattle.std.proofs.Common.{length}
use Rattle.undo_plans.specs.KeptManager.{AreFew}
use Rattle.text_journal.specs.JournalText.{kept_so_far}
use Rattle.text_journal.proofs.FirstLines.{counts_once, refused}
use Rattle.text_journal.proofs.draft.Draft.counts.Goals as goal

pub returns-in_default-clause-none : goal.returns-in_default-clause-none
returns-in_default-clause-none c more next b = c.in_default.ensures.none more b.2.0 b.2.2 b.2.3 (b.0, b.1, b.2.1)

pub returns-then-not-has_counts-clause-none : goal.returns-then-not-has_counts-clause-none
returns-then-not-has_counts-clause-none c more next b =
    let some = c.in-Some.ensures.some in
    let same = counts_once c.args.text.now c.in-Some.found.1.now more c.in-Some.found.0 b.2.0 some.0 some.1 b.2.2 b.2.3 some.2 (b.0, b.1, b.2.1) in
    let kept = kept_so_far c.args.self.now.contents in
    refused _ _ c.if-not-has_counts.true c.has_counts.ensures (subst (AreFew (length kept.plan) (length kept.members) kept.stage) (sym same) b.2.4)
