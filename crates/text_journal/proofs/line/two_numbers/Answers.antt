use Rattle.text_journal.proofs.Lines.{not_two, two_cut}
use Rattle.text_journal.proofs.line.two_numbers.Goals as goal

pub returns-in_default-clause-none : goal.returns-in_default-clause-none
returns-in_default-clause-none c first second low small e = not_two c.args.words.now first second e c.in_default.ensures.none

pub returns-in_default-plain_number-clause-none : goal.returns-in_default-plain_number-clause-none
returns-in_default-plain_number-clause-none c first second low small e =
    c.in_default-plain_number.ensures.none first low (two_cut c.args.words.now c.in-Some.parts.0.now c.in-Some.parts.1.now first second low e c.in-Some.ensures.some).0

pub returns-in-None-clause-none : goal.returns-in-None-clause-none
returns-in-None-clause-none c first second low small e =
    c.in-None.ensures.none second small (two_cut c.args.words.now c.in-Some.parts.0.now c.in-Some.parts.1.now first second low e c.in-Some.ensures.some).1
