use Rattle.std.proofs.Common.{rules, ◌≡◌, ◌∙◌}
use Rattle.std.proofs.lemmas.Iterator.{YieldsList-from_slice, YieldsList-from_map}
use Rattle.std.proofs.lemmas.Iterator.Consumers.{YieldsList-at, YieldsList-from_chain}
use Rattle.std.proofs.lemmas.Iterator.Adapters.{fact_from_collect}
use Rattle.cfg_records.proofs.board_file.BoardFile.sensor_records.Goals as goal

pub returns : goal.returns
returns c =
    let thresholds = YieldsList-from_map _ _ (YieldsList-at c.map-thresholds.ensures.source (YieldsList-from_slice c.args.self.now.sensors.items (c.iter.ensures.rest ∙ c.as_slice-sensors.ensures))) c.map-thresholds.ensures.closure (λ x r q k. search rules) in
    let hysteresis = YieldsList-from_map _ _ (YieldsList-at c.map.ensures.source (YieldsList-from_slice c.args.self.now.sensors.items (c.iter-2.ensures.rest ∙ c.as_slice-sensors.ensures))) c.map.ensures.closure (λ x r q k. search rules) in
    let events = YieldsList-from_map _ _ (YieldsList-at c.map-2.ensures.source (YieldsList-from_slice c.args.self.now.sensors.items (c.iter-3.ensures.rest ∙ c.as_slice-sensors.ensures))) c.map-2.ensures.closure (λ x r q k. search rules) in
    fact_from_collect (λ xs v. v.items.items ≡ xs) c.collect.result c.collect.ensures.ran
    (YieldsList-from_chain (YieldsList-at c.chain-2.ensures.first (YieldsList-from_chain (YieldsList-at c.chain.ensures.first thresholds) (YieldsList-at c.chain.ensures.second hysteresis) c.chain.ensures.first_done c.chain.ensures.second_done)) (YieldsList-at c.chain-2.ensures.second events) c.chain-2.ensures.first_done c.chain-2.ensures.second_done)
