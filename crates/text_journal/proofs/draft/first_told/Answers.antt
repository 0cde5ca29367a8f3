use Rattle.text_journal.proofs.FirstLines.{none_so, none_told}
use Rattle.text_journal.proofs.draft.first_told.Goals as goal

pub returns-in-None-clause-none : goal.returns-in-None-clause-none
returns-in-None-clause-none c = none_so c.first_go.result _ _ c.first_go.ensures.none (λ go. none_told c.args.text.now c.in-None.ensures.none go)
