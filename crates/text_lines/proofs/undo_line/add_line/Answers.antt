use Rattle.text_lines.proofs.UndoLines.{no_bus}
use Rattle.text_lines.proofs.undo_line.add_line.Goals as goal

pub returns-in_default-clause-refused : goal.returns-in_default-clause-refused
returns-in_default-clause-refused c same = no_bus c.args.line.now c.in_default.ensures.none
