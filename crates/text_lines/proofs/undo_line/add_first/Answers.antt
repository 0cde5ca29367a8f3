use Rattle.std.proofs.Common.{rules}
use Rattle.text_lines.specs.UndoText.{IsRequestLine}
use Rattle.text_lines.proofs.UndoLines.{request_lacks, first_of_sort, no_line}
use Rattle.text_lines.proofs.undo_line.add_first.Goals as goal

pub returns-in_default-clause-lines : goal.returns-in_default-clause-lines
returns-in_default-clause-lines c more asked = no_line (λ line. IsRequestLine line asked) c.args.text.now more c.in_default.ensures.none

pub returns-else-branch-clause-lines : goal.returns-else-branch-clause-lines
returns-else-branch-clause-lines c more asked b =
    c.add_line.ensures.refused (search rules) asked
    (first_of_sort (λ line. IsRequestLine line asked) c.args.text.now c.in-Some.cut.0.now c.in-Some.cut.1.now more c.in-Some.ensures.some (λ line. request_lacks line asked) b)
