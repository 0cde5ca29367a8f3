use Rattle.std.proofs.Common.{rules, ◌≡◌, ◌∙◌}
use Rattle.std.proofs.lemmas.Iterator.{YieldsList-from_slice}
use Rattle.std.proofs.lemmas.Iterator.Consumers.{YieldsList-at, YieldsList-from_filter_map}
use Rattle.std.proofs.lemmas.Iterator.Adapters.{fact_from_collect}
use Rattle.report_words.proofs.board_names.told_sensors.Goals as goal

pub returns : goal.returns
returns c =
    let told = YieldsList-from_filter_map _ _ (YieldsList-at c.filter_map.ensures.source (YieldsList-from_slice c.args.file.now.sdr.items (c.iter.ensures.rest ∙ c.as_slice-records.ensures))) c.filter_map.ensures.closure (λ x r q k. search rules) in
    fact_from_collect (λ xs v. v.items.items ≡ xs) c.collect.result c.collect.ensures.ran told
