use Rattle.std.proofs.Common.{rules, ◌≡◌, ◌∙◌}
use Rattle.std.proofs.lemmas.Iterator.{YieldsList-from_slice, YieldsList-from_map}
use Rattle.std.proofs.lemmas.Iterator.Consumers.{YieldsList-at, YieldsList-from_chain}
use Rattle.std.proofs.lemmas.Iterator.Adapters.{fact_from_collect}
use Rattle.cfg_records.proofs.board_file.BoardFile.channel_records.Goals as goal

pub returns : goal.returns
returns c =
    let non_volatile = YieldsList-from_map _ _ (YieldsList-at c.map-non_volatile.ensures.source (YieldsList-from_slice c.args.self.now.channels.items (c.iter.ensures.rest ∙ c.as_slice-channels.ensures))) c.map-non_volatile.ensures.closure (λ x r q k. search rules) in
    let volatile = YieldsList-from_map _ _ (YieldsList-at c.map-volatile.ensures.source (YieldsList-from_slice c.args.self.now.channels.items (c.iter-2.ensures.rest ∙ c.as_slice-channels.ensures))) c.map-volatile.ensures.closure (λ x r q k. search rules) in
    fact_from_collect (λ xs v. v.items.items ≡ xs) c.collect.result c.collect.ensures.ran
    (YieldsList-from_chain (YieldsList-at c.chain.ensures.first non_volatile) (YieldsList-at c.chain.ensures.second volatile) c.chain.ensures.first_done c.chain.ensures.second_done)
