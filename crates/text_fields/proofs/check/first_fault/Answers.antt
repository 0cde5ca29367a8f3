use Rattle.std.proofs.Common.{◌≡◌, None, sym, ◌∙◌}
use Rattle.std.specs.List.{find}
use Rattle.toml.specs.View.{table_view}
use Rattle.text_fields.specs.Faults.{is_missing, is_mistyped}
use Rattle.text_fields.proofs.First.{missing_first, mistyped_first, beyond_first, sound}
use Rattle.text_fields.proofs.check.first_fault.Goals as goal

pub returns-in-Some : goal.returns-in-Some
returns-in-Some c = sym (missing_first c.args.rows.now (table_view c.args.item.now) c.in-Some.row (sym c.missing.ensures ∙ c.in-Some.is))

pub returns-in-Some-mistyped : goal.returns-in-Some-mistyped
returns-in-Some-mistyped c =
    let all : find (is_missing (table_view c.args.item.now)) c.args.rows.now ≡ None = sym c.missing.ensures ∙ c.in_default.is in
    sym (mistyped_first c.args.rows.now (table_view c.args.item.now) c.in-Some-mistyped.row all (sym c.mistyped.ensures ∙ c.in-Some-mistyped.is))

pub returns-in-Some-beyond : goal.returns-in-Some-beyond
returns-in-Some-beyond c =
    let all : find (is_missing (table_view c.args.item.now)) c.args.rows.now ≡ None = sym c.missing.ensures ∙ c.in_default.is in
    let typed : find (is_mistyped (table_view c.args.item.now)) c.args.rows.now ≡ None = sym c.mistyped.ensures ∙ c.in_default-mistyped.is in
    sym (beyond_first c.args.rows.now (table_view c.args.item.now) c.in-Some-beyond.row all typed (sym c.beyond.ensures ∙ c.in-Some-beyond.is))

pub returns : goal.returns
returns c =
    let all : find (is_missing (table_view c.args.item.now)) c.args.rows.now ≡ None = sym c.missing.ensures ∙ c.in_default.is in
    let typed : find (is_mistyped (table_view c.args.item.now)) c.args.rows.now ≡ None = sym c.mistyped.ensures ∙ c.in_default-mistyped.is in
    sym (sound c.args.rows.now (table_view c.args.item.now) all typed (sym c.beyond.ensures ∙ c.in_default-beyond.is))
