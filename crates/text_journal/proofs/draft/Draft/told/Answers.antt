use Rattle.text_journal.proofs.draft.Draft.told.Goals as goal

pub returns-in_default-clause-none : goal.returns-in_default-clause-none
returns-in_default-clause-none c more next b = c.in_default.ensures.none more b.2.0 (b.0, b.1, b.2.1)
