use Rattle.std.proofs.Common.{◌≡◌, ◌+◌, ◌++◌, ◌∷◌, [], ℕ, List, take, sym, ◌∙◌, ap, arith}
use Rattle.std.proofs.lemmas.List.{take_more}
use Rattle.record_base.specs.declared.attribute.Attribute.{Attribute}
use Rattle.bios_attr.specs.Attributes.{with_texts, with_attributes, texts_of}
use Rattle.bios_attr.specs.AttributeLaws.{attributes_more}
use Rattle.bios_attr.proofs.strings.strings_of.Goals as goal

pub loop-attribute-preserved : goal.loop-attribute-preserved
loop-attribute-preserved c =
    let item = c.attribute-item.result in
    let before = take c.loop-attribute.attribute-index c.args.attributes.now in
    let more : take (c.loop-attribute.attribute-index + 1) c.args.attributes.now ≡ before ++ item ∷ [] =
    take_more c.args.attributes.now c.loop-attribute.attribute-index item (omega arith) ∙ ap (λ (x : Attribute). before ++ x ∷ []) (sym c.attribute-item.is) in
    c.in_ok-push_attribute.ensures
    ∙ ap (λ (xs : List (List ℕ)). with_texts xs (texts_of item)) c.loop-attribute.invariant
    ∙ sym (ap (with_attributes []) more ∙ attributes_more [] before item)
