use Rattle.std.proofs.Common.{not, rules, tests}
use Rattle.std.proofs.lemmas.Iterator.{YieldsList-from_slice}
use Rattle.std.proofs.lemmas.Iterator.Consumers.{YieldsList-from_filter, count_from_yields_List}
use Rattle.cfg_records.specs.Records.{Pair}
use Rattle.cfg_records.specs.Changed.{is_value}
use Rattle.cfg_records.proofs.changed.changed_count.Goals as goal

pub returns : goal.returns
returns g c =
    count_from_yields_List c.filter.result _ c.count.ensures.ran
    (YieldsList-from_filter _ (λ (pair : Pair). not (is_value pair.1 (g.S.Store.records c.args.store.now pair.0)))
    (YieldsList-from_slice c.args.start.now (cc)) c.filter.ensures.closure (λ x b q k. search (rules, tests)))
