use Rattle.text_lines.proofs.NamesLines.{pair_last}
use Rattle.text_lines.proofs.undo_names.eids.Goals as goal

pub returns-in-None-clause-none : goal.returns-in-None-clause-none
returns-in-None-clause-none c own peer is =
    let first = c.in-Some.ensures.some in
    c.in-None.ensures.none peer (pair_last c.args.words.now first.0 c.in-Some.first.1.now c.in-Some.first.0 own peer first.1 first.2 is)
