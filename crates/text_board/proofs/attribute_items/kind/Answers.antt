use Rattle.std.proofs.Common.{◌≡◌, List, [], sym, subst, ◌∙◌}
use Rattle.toml.specs.View.{table_view}
use Rattle.text_fields.specs.declared.row.Row.{Row}
use Rattle.text_fields.specs.Faults.{field_faults}
use Rattle.text_board.proofs.AttributeFields.{names_integer}
use Rattle.text_board.proofs.attribute_items.kind.Goals as goal

pub enumeration-requires : goal.enumeration-requires
enumeration-requires c = rw (sym c.has_text.ensures ∙ c.if-has_text.true) at c.requires

pub string-requires : goal.string-requires
string-requires c = rw (sym c.has_text.ensures ∙ c.if-has_text.false, sym c.has_text-2.ensures ∙ c.if-has_text-2.true) at c.requires

pub integer-requires : goal.integer-requires
integer-requires c =
    let tree = table_view c.args.item.now.table.now in
    let not_first = sym c.has_text.ensures ∙ c.if-has_text.false in
    let not_second = sym c.has_text-2.ensures ∙ c.if-has_text-2.false in
    let is = names_integer tree not_first not_second (subst (λ (rows : List Row). field_faults rows tree ≡ []) c.requires c.args.item.now.sound) in
    rw (not_first, not_second, is) at c.requires

pub returns-clause-held : goal.returns-clause-held
returns-clause-held c =
    let tree = table_view c.args.item.now.table.now in
    let not_first = sym c.has_text.ensures ∙ c.if-has_text.false in
    let not_second = sym c.has_text-2.ensures ∙ c.if-has_text-2.false in
    (names_integer tree not_first not_second (subst (λ (rows : List Row). field_faults rows tree ≡ []) c.requires c.args.item.now.sound), c.integer.ensures)
