use Rattle.text_lines.specs.UndoText.{IsNumbersLine}
use Rattle.text_lines.proofs.UndoLines.{numbers_lack, first_of_sort, no_line}
use Rattle.text_lines.proofs.undo_line.first_numbers.Goals as goal

pub returns-in_default-clause-none : goal.returns-in_default-clause-none
returns-in_default-clause-none c more next = no_line (λ line. IsNumbersLine line next) c.args.text.now more c.in_default.ensures.none

pub returns-in-None-clause-none : goal.returns-in-None-clause-none
returns-in-None-clause-none c more next b =
    c.in-None.ensures.none next (first_of_sort (λ line. IsNumbersLine line next) c.args.text.now c.in-Some.parts.0.now c.in-Some.parts.1.now more c.in-Some.ensures.some (λ line. numbers_lack line next) b)
