use Rattle.record_words.proofs.PrintableLines.{in_words_line, record_line, undo_line}
use Rattle.record_words.proofs.laws.lines_are_printable.Goals as goal

pub returns-clause-lines : goal.returns-clause-lines
returns-clause-lines c = in_words_line

pub returns-clause-undone : goal.returns-clause-undone
returns-clause-undone c = undo_line

pub returns-clause-names : goal.returns-clause-names
returns-clause-names c = record_line
