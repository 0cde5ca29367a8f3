use Rattle.text_journal.proofs.JournalLaws.{one_journal_of, apart, one_first_bad}
use Rattle.text_journal.proofs.laws.one_journal.Goals as goal

pub returns-clause-same : goal.returns-clause-same
returns-clause-same c = one_journal_of

pub returns-clause-apart : goal.returns-clause-apart
returns-clause-apart c = apart

pub returns-clause-first : goal.returns-clause-first
returns-clause-first c = one_first_bad
