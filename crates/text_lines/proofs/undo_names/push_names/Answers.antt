use Rattle.std.proofs.Common.{string_bytes}
use Rattle.std.proofs.lemmas.Result.{on_ok_weaker}
use Rattle.text_lines.specs.UndoText.{IsNamesLine, names_line}
use Rattle.text_lines.proofs.NamesLines.{names_written, names_pieces, where_ok}
use Rattle.text_lines.proofs.undo_names.push_names.Goals as goal

pub returns-clause-lines : goal.returns-clause-lines
returns-clause-lines c =
    where_ok (IsNamesLine (names_line c.args.names.now) c.args.names.now) c.writeln.result
    (names_written c.args.names.now c.byte-own.result c.byte.result c.byte-own-2.result c.byte-2.result c.byte-own.ensures.value c.byte.ensures.value c.byte-own-2.ensures.value c.byte-2.ensures.value
    c.byte-own.ensures.even c.byte.ensures.even c.byte-own-2.ensures.even c.byte-2.ensures.even c.in_ok-push_pair.ensures.lines c.in_ok-push_pair-2.ensures.lines c.in_ok-push_pair-3.ensures.lines)

pub returns-clause-text : goal.returns-clause-text
returns-clause-text c =
    on_ok_weaker c.writeln.result
    (names_pieces (string_bytes c.args.text.now) (string_bytes c.push_pair.new.text) (string_bytes c.push_pair-2.new.text) (string_bytes c.push_pair-3.new.text) _
    c.args.names.now c.byte-own.result c.byte.result c.byte-own-2.result c.byte-2.result c.byte-own.ensures.value c.byte.ensures.value c.byte-own-2.ensures.value c.byte-2.ensures.value
    c.in_ok-push_pair.ensures.text c.in_ok-push_pair-2.ensures.text c.in_ok-push_pair-3.ensures.text) c.writeln.ensures.bytes
