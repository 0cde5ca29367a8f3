use Rattle.bmcnet.proofs.IdRanges.{unread_alone, unread_around}
use Rattle.bmcnet.proofs.ids.id_range.Goals as goal

pub returns-in-Some-clause-none : goal.returns-in-Some-clause-none
returns-in-Some-clause-none c =
    unread_around c.args.word.now c.in-Some.front.now c.in-Some.back.now c.range_between.result c.in-Some.ensures.some c.range_between.ensures.none

pub returns-in-None-clause-none : goal.returns-in-None-clause-none
returns-in-None-clause-none c = unread_alone c.args.word.now c.range_between-in-None.result c.in-None.ensures.none c.range_between-in-None.ensures.none
