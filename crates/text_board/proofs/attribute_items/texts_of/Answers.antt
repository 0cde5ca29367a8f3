use Rattle.std.proofs.Common.{◌≡◌, ◌++◌, ◌∷◌, [], is_some, sym, ap, ◌∙◌}
use Rattle.std.proofs.lemmas.List.{take_all}
use Rattle.toml.specs.View.{view}
use Rattle.text_board.specs.AttributeItems.{IsTextIn}
use Rattle.text_fields.specs.Attributes.{text_of}
use Rattle.text_fields.proofs.Members.{next_zip, each_passes}
use Rattle.text_board.proofs.attribute_items.texts_of.Goals as goal

pub unwrap-requires : goal.unwrap-requires
unwrap-requires c = ap is_some c.text.ensures ∙ each_passes (λ value. is_some (text_of (view value))) c.args.values.now c.loop-value.value-index c.value-item.result c.requires c.loop-value-test.true c.value-item.is

pub returns-clause-held : goal.returns-clause-held
returns-clause-held c = rw (take_all c.loop-value.value-index c.args.values.now c.loop-value-test.false) at c.loop-value.invariant

pub loop-value-preserved : goal.loop-value-preserved
loop-value-preserved c =
    let i = c.loop-value.value-index in
    let before = c.loop-value.texts.items in
    let text = c.unwrap.result in
    let pushed : c.push.new.self.items ≡ before ++ text ∷ [] = c.in-Ok.ensures.items in
    let holds : IsTextIn (view c.value-item.result) text = sym c.text.ensures ∙ c.unwrap.ensures in
    rw pushed (next_zip c.args.values.now i c.value-item.result c.loop-value-test.true c.value-item.is IsTextIn before text c.loop-value.invariant holds)
