use Rattle.text_journal.proofs.Lines.{no_line_behind}
use Rattle.text_journal.proofs.line.first_behind.Goals as goal

pub returns-clause-none : goal.returns-clause-none
returns-clause-none c = no_line_behind c.args.words.now c.args.text.now c.in-Some.rest.now c.in-Some.ensures.some c.first_line.result c.first_line.ensures.none
