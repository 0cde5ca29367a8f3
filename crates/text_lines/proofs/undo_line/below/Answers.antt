use Rattle.std.proofs.Common.{◌<◌, ◌≤◌, arith}
use Rattle.text_lines.proofs.UndoLines.{too_large}
use Rattle.text_lines.proofs.undo_line.below.Goals as goal

pub returns-then-number-from-clause-none : goal.returns-then-number-from-clause-none
returns-then-number-from-clause-none g c n below same =
    let limit : g.row.END < 256 = omega (arith, g.END.fits) in
    let large : g.row.END ≤ c.in-Some.number = omega (arith, c.if-number-from.true, c.from.ensures) in
    too_large c.args.word.now c.in-Some.number n g.row.END c.in-Some.ensures.some.1 same c.in-Some.ensures.some.0 below limit large
