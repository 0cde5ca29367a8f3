use Rattle.std.proofs.Common.{◌≡◌, ◌≤◌, ℕ, true, nat_le, length, is_some, Some, map, rules, sym, ◌∙◌, arith}
use Rattle.std.proofs.lemmas.Bool.Decides.{nat_tests}
use Rattle.std.proofs.lemmas.List.Folds.{list_all-map}
use Rattle.std.proofs.lemmas.List.{length-map}
use Rattle.toml.specs.Data.{Data}
use Rattle.toml.specs.View.{view}
use Rattle.text_fields.specs.Trees.{members}
use Rattle.text_fields.specs.Ranges.{record_in}
use Rattle.text_fields.proofs.range.are_records.Goals as goal

at_most : (m n : ℕ) → m ≤ n → nat_le m n ≡ true
at_most m n h = grind (arith, nat_tests)

pub returns-then-values-most : goal.returns-then-values-most
returns-then-values-most c =
    let values = c.in-Some.values.now in
    let found : members (view c.args.value.now) ≡ Some (map view values) = search (rules, c.in-Some.ensures) in
    let few : nat_le (length (map view values)) c.args.most ≡ true = at_most _ _ (rw (length-map values view) c.if-values-most.true) in
    rw (found, few) (c.all_records.ensures ∙ sym (list_all-map (λ (text : Data). is_some (record_in text)) view values))
