use Rattle.std.proofs.Common.{◌≡◌, ◌≤◌, suc, ℕ, length, List, is_some, sym, ◌∙◌, ap, arith, lit<}
use Rattle.std.proofs.lemmas.Option.{same_Some}
use Rattle.toml.specs.View.{table_view}
use Rattle.record_base.specs.AttributeSizes.{most_text, most_sent}
use Rattle.text_fields.proofs.Rows.{all_checked}
use Rattle.plan_file.proofs.AttributeSteps.{text_there}
use Rattle.plan_file.proofs.kind.bios_attribute.set_text.Goals as goal

fits : (text : List ℕ) → length text ≤ most_text → length text ≤ 65535
fits text short = omega (arith, short)

with_length : (text : List ℕ) → length text ≤ most_text → suc (suc (length text)) ≤ most_sent
with_length text short = omega (arith, short)

pub string_in-text-requires : goal.string_in-text-requires
string_in-text-requires c =
    let tree = table_view c.args.step.now.table.now in
    let there = text_there tree c.requires.given (all_checked tree c.args.step.now.sound c.requires.rows).1.1.0 in
    ap is_some there.found

pub new-requires : goal.new-requires
new-requires c =
    let tree = table_view c.args.step.now.table.now in
    let there = text_there tree c.requires.given (all_checked tree c.args.step.now.sound c.requires.rows).1.1.0 in
    let same : c.string_in-text.result.now ≡ there.text = same_Some _ _ (sym c.string_in-text.ensures ∙ there.found) in
    (lit< tt, fits c.string_in-text.result.now (rw same there.few))

pub set_to-requires-clause-given : goal.set_to-requires-clause-given
set_to-requires-clause-given c =
    let tree = table_view c.args.step.now.table.now in
    let there = text_there tree c.requires.given (all_checked tree c.args.step.now.sound c.requires.rows).1.1.0 in
    (rw c.new.ensures c.string_in-text.ensures, (c.requires.first, there.no_number))

pub set_to-requires-clause-few : goal.set_to-requires-clause-few
set_to-requires-clause-few c =
    let tree = table_view c.args.step.now.table.now in
    let there = text_there tree c.requires.given (all_checked tree c.args.step.now.sound c.requires.rows).1.1.0 in
    let same : c.new.result ≡ there.text = c.new.ensures ∙ same_Some _ _ (sym c.string_in-text.ensures ∙ there.found) in
    with_length c.new.result (rw same there.few)
