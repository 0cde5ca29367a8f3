use Rattle.text_journal.proofs.Lines.{no_numbers, numbers_behind}
use Rattle.text_journal.proofs.line.first_numbers.Goals as goal

pub returns-in_default-clause-none : goal.returns-in_default-clause-none
returns-in_default-clause-none c more first second low small b = no_numbers c.args.words.now c.args.text.now more first second low small c.in_default.ensures.none b

pub returns-in-None-clause-none : goal.returns-in-None-clause-none
returns-in-None-clause-none c more first second low small b =
    c.in-None.ensures.none first second low small (numbers_behind c.args.words.now c.in-Some.found.0.now c.args.text.now c.in-Some.found.1.now more first second low small c.in-Some.ensures.some b)
