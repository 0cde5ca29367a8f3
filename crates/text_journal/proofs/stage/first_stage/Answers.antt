use Rattle.std.proofs.Common.{arith, sym}
use Rattle.text_journal.specs.JournalLines.{stage_step, stage_part}
use Rattle.text_journal.proofs.FirstLines.{numbers_once, word_once, numbers_of}
use Rattle.text_journal.proofs.stage.first_stage.Goals as goal

pub returns-in_default-first_numbers-clause-none : goal.returns-in_default-first_numbers-clause-none
returns-in_default-first_numbers-clause-none c more stage is b =
    let word = c.in-Some.ensures.some in
    let same = word_once c.args.text.now word.0 more c.in-Some.word stage word.1 b in
    c.in_default-first_numbers.ensures.none more (stage_step stage) (stage_part stage) is.step (omega (arith, is.part)) (numbers_of c.args.text.now more c.spelt.result.now c.in-Some.word stage c.spelt.ensures same b)

pub returns-in-None-clause-none : goal.returns-in-None-clause-none
returns-in-None-clause-none c more stage is b =
    let word = c.in-Some.ensures.some in
    let same = word_once c.args.text.now word.0 more c.in-Some.word stage word.1 b in
    let some = c.in-Some-first_numbers.ensures.some in
    let numbers = numbers_once c.spelt.result.now c.args.text.now c.in-Some-first_numbers.found.1.now more c.in-Some-first_numbers.found.0.0 c.in-Some-first_numbers.found.0.1 (stage_step stage) (stage_part stage) some.0 some.1 is.step (omega (arith, is.part)) some.2
    (numbers_of c.args.text.now more c.spelt.result.now c.in-Some.word stage c.spelt.ensures same b) in
    c.in-None.ensures.none stage is same (sym numbers.0) (sym numbers.1)
