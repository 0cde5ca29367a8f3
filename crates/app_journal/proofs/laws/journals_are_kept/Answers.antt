use Rattle.app_journal.proofs.KeepingFacts.{allowed_is_kept, closed_is_silent, open_set_is_taken_back}
use Rattle.app_journal.proofs.laws.journals_are_kept.Goals as goal

pub returns-clause-allowed : goal.returns-clause-allowed
returns-clause-allowed g c = allowed_is_kept g.F.WritesFiles.takes g.F.WritesFiles.renames

pub returns-clause-taken_back : goal.returns-clause-taken_back
returns-clause-taken_back g c = open_set_is_taken_back

pub returns-clause-silent : goal.returns-clause-silent
returns-clause-silent g c = closed_is_silent
