use Rattle.std.proofs.Common.{◌≡◌, ◌≤◌, ℕ, true, nat_le, length, map, sym, ◌∙◌, arith}
use Rattle.std.proofs.lemmas.Bool.Decides.{nat_tests}
use Rattle.std.proofs.lemmas.List.Folds.{list_all-map}
use Rattle.std.proofs.lemmas.List.{length-map}
use Rattle.record_base.specs.BoardSizes.{most_state_fields}
use Rattle.toml.specs.View.{view}
use Rattle.text_fields.specs.Ranges.{is_state_list}
use Rattle.text_fields.proofs.states.are_state_lists.Goals as goal

at_most : (m n : ℕ) → m ≤ n → nat_le m n ≡ true
at_most m n h = grind (arith, nat_tests)

pub returns-then-lists-le-MOST_STATE_FIELDS : goal.returns-then-lists-le-MOST_STATE_FIELDS
returns-then-lists-le-MOST_STATE_FIELDS c =
    let lists = c.members_of-lists.result.now in
    let some : 1 ≤ length lists = grind (arith, c.if-is_empty.false, c.if-is_empty.ensures, c.is_empty.ensures) in
    let least : nat_le 1 (length (map view lists)) ≡ true = at_most _ _ (rw (length-map lists view) some) in
    let most : nat_le (length (map view lists)) most_state_fields ≡ true = at_most _ _ (rw (length-map lists view) c.if-lists-le-MOST_STATE_FIELDS.true) in
    rw (← c.members_of-lists.ensures, least, most) (c.all_state_lists.ensures ∙ sym (list_all-map is_state_list view lists))
