use Rattle.std.proofs.Common.{◌≡◌, ◌≤◌, ℕ, true, nat_le, length, is_some, map, sym, ◌∙◌, arith}
use Rattle.std.proofs.lemmas.Bool.Decides.{nat_tests}
use Rattle.std.proofs.lemmas.List.Folds.{list_all-map}
use Rattle.std.proofs.lemmas.List.{length-map}
use Rattle.toml.specs.Data.{Data}
use Rattle.toml.specs.View.{view}
use Rattle.text_fields.specs.Attributes.{text_of}
use Rattle.text_fields.proofs.attributes.are_values.Goals as goal

at_most : (m n : ℕ) → m ≤ n → nat_le m n ≡ true
at_most m n h = grind (arith, nat_tests)

pub returns-then-values-le-MOST_INDEXES : goal.returns-then-values-le-MOST_INDEXES
returns-then-values-le-MOST_INDEXES c =
    let values = c.members_of-values.result.now in
    let some : 1 ≤ length values = grind (arith, c.if-is_empty.false, c.if-is_empty.ensures, c.is_empty.ensures) in
    let least : nat_le 1 (length (map view values)) ≡ true = at_most _ _ (rw (length-map values view) some) in
    let few : nat_le (length (map view values)) 16 ≡ true = at_most _ _ (rw (length-map values view) c.if-values-le-MOST_INDEXES.true) in
    rw (← c.members_of-values.ensures, least, few) (c.all_texts.ensures ∙ sym (list_all-map (λ (d : Data). is_some (text_of d)) view values))
