use Rattle.std.proofs.Common.{◌≡◌, Some, map, rules, sym, ◌∙◌}
use Rattle.std.proofs.lemmas.List.Folds.{list_all-map}
use Rattle.toml.specs.View.{view}
use Rattle.text_fields.specs.Trees.{members}
use Rattle.text_fields.specs.Ranges.{is_offset}
use Rattle.text_fields.proofs.range.are_offsets.Goals as goal

pub returns-in-Some : goal.returns-in-Some
returns-in-Some c =
    let values = c.in-Some.values.now in
    let found : members (view c.args.value.now) ≡ Some (map view values) = search (rules, c.in-Some.ensures) in
    rw found (c.all_offsets.ensures ∙ sym (list_all-map is_offset view values))
