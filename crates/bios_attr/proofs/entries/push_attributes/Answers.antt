use Rattle.std.proofs.Common.{◌≡◌, ◌+◌, ◌++◌, ◌∷◌, [], ℕ, List, take, sym, ◌∙◌, ap, subst, arith}
use Rattle.std.proofs.lemmas.List.{take_all, take_more, append_assoc}
use Rattle.record_base.specs.declared.attribute.Attribute.{Attribute}
use Rattle.bios_attr.specs.declared.bios_table.BiosTable.TheVariants.{Attributes}
use Rattle.bios_attr.specs.Attributes.{attribute_entry, attribute_entries}
use Rattle.bios_attr.specs.AttributeLaws.{pieces_more}
use Rattle.bios_attr.specs.TableEntry.{AreEntriesOf}
use Rattle.bios_attr.specs.TableContents.{attribute_contents}
use Rattle.bios_attr.proofs.Contents.{contents_more}
use Rattle.bios_attr.proofs.entries.push_attributes.Goals as goal

pub loop-attribute-preserved : goal.loop-attribute-preserved
loop-attribute-preserved c =
    let item = c.attribute-item.result in
    let strings = c.args.strings.now in
    let before = take c.loop-attribute.attribute-index c.args.attributes.now in
    let old = c.args.table.now.items in
    let more : take (c.loop-attribute.attribute-index + 1) c.args.attributes.now ≡ before ++ item ∷ [] =
    take_more c.args.attributes.now c.loop-attribute.attribute-index item (omega arith) ∙ ap (λ (x : Attribute). before ++ x ∷ []) (sym c.attribute-item.is) in
    let bytes =
    c.in_ok-push_attribute.ensures.bytes
    ∙ ap (λ (xs : List ℕ). xs ++ attribute_entry strings item) c.loop-attribute.invariant.0
    ∙ append_assoc old (attribute_entries strings before) (attribute_entry strings item)
    ∙ sym (ap (λ (xs : List ℕ). old ++ xs) (ap (attribute_entries strings) more ∙ pieces_more (attribute_entry strings) before item)) in (
      bytes,
      subst (λ (xs : List Attribute). AreEntriesOf Attributes (attribute_contents strings xs)) (sym more) (contents_more strings before item c.loop-attribute.invariant.1 c.in_ok-push_attribute.ensures.whole),
    )

pub returns-clause-bytes : goal.returns-clause-bytes
returns-clause-bytes c =
    c.loop-attribute.invariant.0
    ∙ ap (λ (xs : List Attribute). c.args.table.now.items ++ attribute_entries c.args.strings.now xs) (take_all c.loop-attribute.attribute-index c.args.attributes.now (omega arith))

pub returns-clause-whole : goal.returns-clause-whole
returns-clause-whole c =
    subst (λ (xs : List Attribute). AreEntriesOf Attributes (attribute_contents c.args.strings.now xs)) (take_all c.loop-attribute.attribute-index c.args.attributes.now (omega arith)) c.loop-attribute.invariant.1
