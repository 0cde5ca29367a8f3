use Rattle.text_lines.specs.UndoText.{IsNamesLine}
use Rattle.text_lines.proofs.UndoLines.{names_lack, first_of_sort, no_line}
use Rattle.text_lines.proofs.undo_names.first_names.Goals as goal

pub returns-in_default-clause-none : goal.returns-in_default-clause-none
returns-in_default-clause-none c more names = no_line (λ line. IsNamesLine line names) c.args.text.now more c.in_default.ensures.none

pub returns-in-None-clause-none : goal.returns-in-None-clause-none
returns-in-None-clause-none c more names b =
    c.in-None.ensures.none names (first_of_sort (λ line. IsNamesLine line names) c.args.text.now c.in-Some.parts.0.now c.in-Some.parts.1.now more c.in-Some.ensures.some (λ line. names_lack line names) b)
