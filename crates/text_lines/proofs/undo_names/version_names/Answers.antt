use Rattle.text_lines.proofs.UndoLists.{names_ended}
use Rattle.text_lines.proofs.undo_names.version_names.Goals as goal

pub returns-in-Some-clause-some : goal.returns-in-Some-clause-some
returns-in-Some-clause-some c = names_ended c.args.text.now c.in-Some.found.1.now c.in-Some.found.0 c.in-Some.ensures.some
