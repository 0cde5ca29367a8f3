use Rattle.std.proofs.Common.{◌≡◌, ◌≤◌, ℕ, true, nat_le, is_some, length, map, sym, ◌∙◌, arith}
use Rattle.std.proofs.lemmas.Bool.Decides.{nat_tests}
use Rattle.std.proofs.lemmas.List.Folds.{list_all-map}
use Rattle.std.proofs.lemmas.List.{length-map}
use Rattle.record_base.specs.BoardSizes.{most_state_fields}
use Rattle.toml.specs.View.{view}
use Rattle.toml.specs.Data.{Data}
use Rattle.text_fields.specs.States.{change_of}
use Rattle.text_fields.proofs.states.are_changes.Goals as goal

at_most : (m n : ℕ) → m ≤ n → nat_le m n ≡ true
at_most m n h = grind (arith, nat_tests)

pub returns-then-changes-le-MOST_STATE_FIELDS : goal.returns-then-changes-le-MOST_STATE_FIELDS
returns-then-changes-le-MOST_STATE_FIELDS c =
    let changes = c.members_of-changes.result.now in
    let some : 1 ≤ length changes = grind (arith, c.if-is_empty.false, c.if-is_empty.ensures, c.is_empty.ensures) in
    let least : nat_le 1 (length (map view changes)) ≡ true = at_most _ _ (rw (length-map changes view) some) in
    let most : nat_le (length (map view changes)) most_state_fields ≡ true = at_most _ _ (rw (length-map changes view) c.if-changes-le-MOST_STATE_FIELDS.true) in
    rw (← c.members_of-changes.ensures, least, most) (c.all_changes.ensures ∙ sym (list_all-map (λ (d : Data). is_some (change_of d)) view changes))
