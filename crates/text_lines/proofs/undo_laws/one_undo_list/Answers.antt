use Rattle.text_lines.proofs.UndoLists.{one_list, apart, one_first_bad}
use Rattle.text_lines.proofs.undo_laws.one_undo_list.Goals as goal

pub returns-clause-same : goal.returns-clause-same
returns-clause-same c = one_list

pub returns-clause-apart : goal.returns-clause-apart
returns-clause-apart c = apart

pub returns-clause-first : goal.returns-clause-first
returns-clause-first c = one_first_bad
