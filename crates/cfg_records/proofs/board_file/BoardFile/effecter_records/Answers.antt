use Rattle.std.proofs.Common.{rules, ◌≡◌, ◌∙◌}
use Rattle.std.proofs.lemmas.Iterator.{YieldsList-from_slice, YieldsList-from_map}
use Rattle.std.proofs.lemmas.Iterator.Consumers.{YieldsList-at, YieldsList-from_chain}
use Rattle.std.proofs.lemmas.Iterator.Adapters.{fact_from_collect}
use Rattle.cfg_records.proofs.board_file.BoardFile.effecter_records.Goals as goal

pub returns : goal.returns
returns c =
    let numeric = YieldsList-from_map _ _ (YieldsList-at c.map-numeric.ensures.source (YieldsList-from_slice c.args.self.now.numeric_effecters.items (c.iter.ensures.rest ∙ c.as_slice-numeric.ensures))) c.map-numeric.ensures.closure (λ x r q k. search rules) in
    let state = YieldsList-from_map _ _ (YieldsList-at c.map-state.ensures.source (YieldsList-from_slice c.args.self.now.state_effecters.items (c.iter-2.ensures.rest ∙ c.as_slice-state.ensures))) c.map-state.ensures.closure (λ x r q k. search rules) in
    fact_from_collect (λ xs v. v.items.items ≡ xs) c.collect.result c.collect.ensures.ran
    (YieldsList-from_chain (YieldsList-at c.chain.ensures.first numeric) (YieldsList-at c.chain.ensures.second state) c.chain.ensures.first_done c.chain.ensures.second_done)
