use Rattle.std.proofs.Common.{◌≡◌, ℕ, true, ◌==◌, length, Some, map, rules, sym, ◌∙◌, arith}
use Rattle.std.proofs.lemmas.Bool.Decides.{nat_tests}
use Rattle.std.proofs.lemmas.List.Folds.{list_all-map}
use Rattle.std.proofs.lemmas.List.{length-map}
use Rattle.toml.specs.View.{view}
use Rattle.text_fields.specs.Trees.{members}
use Rattle.text_fields.specs.Ranges.{may_do}
use Rattle.text_fields.proofs.channels.are_user_bytes.Goals as goal

equal_test : (m n : ℕ) → m ≡ n → (m == n) ≡ true
equal_test m n same = grind (arith, nat_tests)

pub returns-then-values-users : goal.returns-then-values-users
returns-then-values-users c =
    let values = c.in-Some.values.now in
    let found : members (view c.args.value.now) ≡ Some (map view values) = search (rules, c.in-Some.ensures) in
    let long : (length (map view values) == c.args.users) ≡ true = equal_test _ _ (length-map values view ∙ c.if-values-users.true) in
    rw (found, long) (c.all_may_do.ensures ∙ sym (list_all-map may_do view values))
