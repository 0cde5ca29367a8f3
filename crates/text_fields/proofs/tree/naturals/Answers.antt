use Rattle.std.proofs.Common.{◌≡◌, Some, map, refl, sym, ◌∙◌, rules}
use Rattle.std.proofs.lemmas.List.{length-map}
use Rattle.toml.specs.View.{view}
use Rattle.text_fields.specs.Trees.{members}
use Rattle.text_fields.proofs.Values.{all_read, none_read}
use Rattle.text_fields.proofs.tree.naturals.Goals as goal

pub returns-then-values : goal.returns-then-values
returns-then-values g c =
    let values = c.in-Some.values.now in
    let found : members (view c.args.value.now) ≡ Some (map view values) = search (rules, c.in-Some.ensures) in
    rw found (none_read g.row.N (map view values) _ refl (λ long. c.if-values.true (sym (length-map values view) ∙ long)))

pub returns : goal.returns
returns g c =
    let values = c.in-Some.values.now in
    let found : members (view c.args.value.now) ≡ Some (map view values) = search (rules, c.in-Some.ensures) in
    rw (found, c.naturals_of.ensures) (all_read g.row.N (map view values) _ refl (length-map values view ∙ c.if-values.false))
