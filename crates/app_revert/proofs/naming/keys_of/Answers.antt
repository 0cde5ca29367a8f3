use Rattle.std.proofs.Common.{rules, ◌≡◌, ◌∙◌}
use Rattle.std.proofs.lemmas.Iterator.{YieldsList-from_slice, YieldsList-from_map}
use Rattle.std.proofs.lemmas.Iterator.Consumers.{YieldsList-at}
use Rattle.std.proofs.lemmas.Iterator.Adapters.{fact_from_collect}
use Rattle.app_revert.proofs.naming.keys_of.Goals as goal

pub returns : goal.returns
returns c =
    let keys = YieldsList-from_map _ _ (YieldsList-at c.map.ensures.source (YieldsList-from_slice c.args.looked.now.sightings.items (c.iter.ensures.rest ∙ c.as_slice-sightings.ensures.value))) c.map.ensures.closure (λ x r q k. search rules) in
    fact_from_collect (λ xs v. v.items.items ≡ xs) c.collect.result c.collect.ensures.ran keys
