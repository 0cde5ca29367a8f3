use Rattle.app_journal.proofs.RevivingFacts.{kept_texts_are_read, kept_texts_are_remade}
use Rattle.app_journal.proofs.laws.kept_texts_revive.Goals as goal

pub returns-clause-read : goal.returns-clause-read
returns-clause-read c = kept_texts_are_read

pub returns-clause-remade : goal.returns-clause-remade
returns-clause-remade c = kept_texts_are_remade
