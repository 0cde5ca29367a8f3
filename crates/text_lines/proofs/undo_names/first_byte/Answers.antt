use Rattle.text_lines.proofs.NamesLines.{no_byte, first_word_is}
use Rattle.text_lines.proofs.undo_names.first_byte.Goals as goal

pub returns-in_default-clause-none : goal.returns-in_default-clause-none
returns-in_default-clause-none c digits byte rest read = no_byte c.args.text.now digits rest c.in_default.ensures.none

pub returns-in-None-clause-none : goal.returns-in-None-clause-none
returns-in-None-clause-none c digits byte rest read e =
    c.in-None.ensures.none byte (first_word_is c.args.text.now c.in-Some.parts.0.now c.in-Some.parts.1.now digits rest byte c.in-Some.ensures.some read e)
