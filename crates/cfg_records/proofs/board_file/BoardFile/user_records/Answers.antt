use Rattle.std.proofs.Common.{rules, ◌≡◌, ◌∙◌}
use Rattle.std.proofs.lemmas.Iterator.{YieldsList-from_slice, YieldsList-from_map}
use Rattle.std.proofs.lemmas.Iterator.Consumers.{YieldsList-at, YieldsList-from_chain}
use Rattle.std.proofs.lemmas.Iterator.Adapters.{fact_from_collect}
use Rattle.cfg_records.proofs.board_file.BoardFile.user_records.Goals as goal

pub returns : goal.returns
returns c =
    let names = YieldsList-from_map _ _ (YieldsList-at c.map-names.ensures.source (YieldsList-from_slice c.args.self.now.users.items (c.iter.ensures.rest ∙ c.as_slice.ensures))) c.map-names.ensures.closure (λ x r q k. search rules) in
    let accesses = YieldsList-from_map _ _ (YieldsList-at c.map-accesses.ensures.source (YieldsList-from_slice c.args.self.now.user_accesses.items (c.iter-2.ensures.rest ∙ c.as_slice-accesses.ensures))) c.map-accesses.ensures.closure (λ x r q k. search rules) in
    fact_from_collect (λ xs v. v.items.items ≡ xs) c.collect.result c.collect.ensures.ran
    (YieldsList-from_chain (YieldsList-at c.chain.ensures.first names) (YieldsList-at c.chain.ensures.second accesses) c.chain.ensures.first_done c.chain.ensures.second_done)
