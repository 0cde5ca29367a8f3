use Rattle.std.proofs.Common.{◌≡◌, ◌≤◌, ℕ, true, ◌&&◌, nat_le, length, is_some, Some, map, rules, sym, ◌∙◌, ap, arith}
use Rattle.std.proofs.lemmas.Bool.Decides.{nat_tests}
use Rattle.std.proofs.lemmas.List.Folds.{list_all-map}
use Rattle.std.proofs.lemmas.List.{length-map}
use Rattle.record_base.specs.BoardSizes.{most_users}
use Rattle.toml.specs.Data.{Data}
use Rattle.toml.specs.View.{view}
use Rattle.text_fields.specs.Trees.{members}
use Rattle.text_fields.specs.Users.{name_of, begins_unnamed}
use Rattle.text_fields.proofs.users.are_names.Goals as goal

at_most : (m n : ℕ) → m ≤ n → nat_le m n ≡ true
at_most m n h = grind (arith, nat_tests)

pub returns-then-values-le-MOST_USERS : goal.returns-then-values-le-MOST_USERS
returns-then-values-le-MOST_USERS c =
    let values = c.in-Some.values.now in
    let found : members (view c.args.value.now) ≡ Some (map view values) = search (rules, c.in-Some.ensures) in
    let few : nat_le (length (map view values)) most_users ≡ true = at_most _ _ (rw (length-map values view) c.if-values-le-MOST_USERS.true) in
    rw (found, few) (c.all_named.ensures ∙ ap (λ b. begins_unnamed (map view values) && b) (sym (list_all-map (λ (d : Data). is_some (name_of d)) view values)))
