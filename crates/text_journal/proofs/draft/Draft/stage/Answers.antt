use Rattle.std.proofs.Common.{sym, subst}
use Rattle.text_journal.specs.JournalText.{Fits, kept_so_far}
use Rattle.text_journal.proofs.FirstLines.{stage_once, refused}
use Rattle.text_journal.proofs.draft.Draft.stage.Goals as goal

pub returns-in_default-clause-none : goal.returns-in_default-clause-none
returns-in_default-clause-none c more next b = c.in_default.ensures.none more b.2.0 b.2.2 (b.0, b.1, b.2.1)

pub returns-then-not-fits-clause-none : goal.returns-then-not-fits-clause-none
returns-then-not-fits-clause-none c more next b =
    let same = stage_once c.args.text.now c.in-Some.found.1.now more c.in-Some.found.0 b.2.0 c.in-Some.ensures.some.0 b.2.2 c.in-Some.ensures.some.1 (b.0, b.1, b.2.1) in
    refused _ _ c.if-not-fits.true c.fits.ensures (subst (Fits (kept_so_far c.args.self.now.contents)) (sym same) b.2.3)
