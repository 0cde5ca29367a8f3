use Rattle.text_journal.proofs.Lines.{no_words}
use Rattle.text_journal.proofs.line.first_words.Goals as goal

pub returns-clause-none : goal.returns-clause-none
returns-clause-none c = no_words c.args.words.now c.args.text.now c.in-Some.rest.now c.in-Some.ensures.some c.behind-2.result c.behind-2.ensures.none
