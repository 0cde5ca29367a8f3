use Rattle.std.proofs.Common.{◌≡◌, ◌≤◌, ℕ, true, nat_le, length, map, sym, ◌∙◌, arith}
use Rattle.std.proofs.lemmas.Bool.Decides.{nat_tests}
use Rattle.std.proofs.lemmas.List.Folds.{list_all-map}
use Rattle.std.proofs.lemmas.List.{length-map}
use Rattle.toml.specs.Data.{Data}
use Rattle.toml.specs.View.{view}
use Rattle.text_fields.specs.Trees.{natural}
use Rattle.text_fields.specs.Attributes.{is_below}
use Rattle.text_fields.proofs.attributes.are_indexes.Goals as goal

at_most : (m n : ℕ) → m ≤ n → nat_le m n ≡ true
at_most m n h = grind (arith, nat_tests)

pub returns-then-indexes-most : goal.returns-then-indexes-most
returns-then-indexes-most c =
    let indexes = c.members_of-indexes.result.now in
    let some : 1 ≤ length indexes = grind (arith, c.if-is_empty.false, c.if-is_empty.ensures, c.is_empty.ensures) in
    let least : nat_le 1 (length (map view indexes)) ≡ true = at_most _ _ (rw (length-map indexes view) some) in
    let most : nat_le (length (map view indexes)) c.args.most ≡ true = at_most _ _ (rw (length-map indexes view) c.if-indexes-most.true) in
    rw (← c.members_of-indexes.ensures, least, most) (c.all_below.ensures ∙ sym (list_all-map (λ (d : Data). is_below c.args.count (natural d)) view indexes))
