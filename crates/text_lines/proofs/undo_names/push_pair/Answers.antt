use Rattle.std.proofs.Common.{arith}
use Rattle.text_lines.specs.UndoText.{IsPair, pair_of}
use Rattle.text_lines.proofs.NamesLines.{pair_written, where_ok}
use Rattle.text_lines.proofs.undo_names.push_pair.Goals as goal

pub returns-clause-lines : goal.returns-clause-lines
returns-clause-lines c =
    where_ok (IsPair (pair_of c.args.own c.args.peer) c.args.own c.args.peer) _ (pair_written c.args.own c.args.peer (omega (arith, c.ranges.own.fits)) (omega (arith, c.ranges.peer.fits)))
