use Rattle.std.proofs.Common.{◌≡◌, ◌+◌, ◌++◌, ◌∷◌, [], List, take, map, sym, ◌∙◌, ap, arith}
use Rattle.std.proofs.lemmas.List.{take_all, take_more, map-append}
use Rattle.record_base.specs.declared.attribute.Attribute.{Attribute}
use Rattle.bios_attr.specs.declared.current_values.EntryHead.{EntryHead}
use Rattle.bios_attr.specs.Values.{head_of}
use Rattle.bios_attr.proofs.current_values.heads_of.Goals as goal

pub loop-attribute-preserved : goal.loop-attribute-preserved
loop-attribute-preserved c =
    let item = c.attribute-item.result in
    let before = take c.loop-attribute.attribute-index c.args.attributes.now in
    let more : take (c.loop-attribute.attribute-index + 1) c.args.attributes.now ≡ before ++ item ∷ [] =
    take_more c.args.attributes.now c.loop-attribute.attribute-index item (omega arith) ∙ ap (λ (x : Attribute). before ++ x ∷ []) (sym c.attribute-item.is) in
    c.in-Ok.ensures.items
    ∙ ap (λ (heads : List EntryHead). heads ++ c.head_of.result ∷ []) c.loop-attribute.invariant
    ∙ ap (λ (head : EntryHead). map head_of before ++ head ∷ []) c.head_of.ensures
    ∙ sym (ap (map head_of) more ∙ map-append head_of before (item ∷ []))

pub returns : goal.returns
returns c = c.loop-attribute.invariant ∙ ap (map head_of) (take_all c.loop-attribute.attribute-index c.args.attributes.now (omega arith))
