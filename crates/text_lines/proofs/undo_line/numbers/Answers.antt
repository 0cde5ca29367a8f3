use Rattle.std.specs.Fmt.{decimal}
use Rattle.text_lines.proofs.UndoLines.{numbers_behind, numbers_cut, numbers_have_space, behind_same}
use Rattle.text_lines.proofs.undo_line.numbers.Goals as goal

pub returns-in_default-first_word-clause-none : goal.returns-in_default-first_word-clause-none
returns-in_default-first_word-clause-none c next is =
    let e = numbers_behind c.args.line.now c.in-Some.numbers.now next c.in-Some.ensures.some is in
    numbers_have_space c.in-Some.numbers.now next e c.in_default-first_word.ensures.none

pub returns-in_default-behind-clause-none : goal.returns-in_default-behind-clause-none
returns-in_default-behind-clause-none c next is =
    let e = numbers_behind c.args.line.now c.in-Some.numbers.now next c.in-Some.ensures.some is in
    let cut = numbers_cut c.in-Some.numbers.now _ _ next is.ipmb e c.in-Some-first_word.ensures.some in
    c.in_default-behind.ensures.none (decimal next.smbus) cut.1

pub returns-in_default-below-clause-none : goal.returns-in_default-below-clause-none
returns-in_default-below-clause-none c next is =
    let e = numbers_behind c.args.line.now c.in-Some.numbers.now next c.in-Some.ensures.some is in
    let cut = numbers_cut c.in-Some.numbers.now _ _ next is.ipmb e c.in-Some-first_word.ensures.some in
    c.in_default-below.ensures.none next.ipmb is.ipmb cut.0

pub returns-in_default-below-2-clause-none : goal.returns-in_default-below-2-clause-none
returns-in_default-below-2-clause-none c next is =
    let e = numbers_behind c.args.line.now c.in-Some.numbers.now next c.in-Some.ensures.some is in
    let cut = numbers_cut c.in-Some.numbers.now _ _ next is.ipmb e c.in-Some-first_word.ensures.some in
    c.in_default-below-2.ensures.none next.smbus is.smbus (behind_same _ _ _ c.in-Some-behind.ensures.some cut.1)
