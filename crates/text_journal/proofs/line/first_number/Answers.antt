use Rattle.text_journal.proofs.Lines.{no_number, number_behind}
use Rattle.text_journal.proofs.line.first_number.Goals as goal

pub returns-in_default-clause-none : goal.returns-in_default-clause-none
returns-in_default-clause-none c more n low b = no_number c.args.words.now c.args.text.now more n low c.in_default.ensures.none b

pub returns-in-None-clause-none : goal.returns-in-None-clause-none
returns-in-None-clause-none c more n low b =
    c.in-None.ensures.none n low (number_behind c.args.words.now c.in-Some.found.0.now c.args.text.now c.in-Some.found.1.now more n low c.in-Some.ensures.some b)
