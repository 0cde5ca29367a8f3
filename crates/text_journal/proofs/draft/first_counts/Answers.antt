use Rattle.std.proofs.Common.{codes, arith}
use Rattle.text_journal.proofs.FirstLines.{numbers_once}
use Rattle.text_journal.proofs.draft.first_counts.Goals as goal

pub returns-in_default-clause-none : goal.returns-in_default-clause-none
returns-in_default-clause-none c more counts low small b = c.in_default.ensures.none more counts.ipmb counts.smbus (omega (arith, low)) (omega (arith, small)) b

pub returns-in_default-count_of-clause-none : goal.returns-in_default-count_of-clause-none
returns-in_default-count_of-clause-none c more counts low small b =
    let some = c.in-Some.ensures.some in
    let same = numbers_once (codes "counts ") c.args.text.now c.in-Some.found.1.now more c.in-Some.found.0.0 c.in-Some.found.0.1 counts.ipmb counts.smbus some.0 some.1 (omega (arith, low)) (omega (arith, small)) some.2 b in
    omega (arith, same.0, low, c.in_default-count_of.ensures.none)

pub returns-in_default-count_of-2-clause-none : goal.returns-in_default-count_of-2-clause-none
returns-in_default-count_of-2-clause-none c more counts low small b =
    let some = c.in-Some.ensures.some in
    let same = numbers_once (codes "counts ") c.args.text.now c.in-Some.found.1.now more c.in-Some.found.0.0 c.in-Some.found.0.1 counts.ipmb counts.smbus some.0 some.1 (omega (arith, low)) (omega (arith, small)) some.2 b in
    omega (arith, same.1, small, c.in_default-count_of-2.ensures.none)
