use Rattle.std.proofs.Common.{◌≡◌, ◌<◌, ◌++◌, ◌∷◌, [], map, drop, length, inl, inr, ap, ◌∙◌, arith}
use Rattle.std.proofs.lemmas.List.{drop_all, take_all}
use Rattle.std.proofs.lemmas.Result.{err_from_is_err_and}
use Rattle.record_base.specs.declared.attribute.Attribute.{Attribute}
use Rattle.record_base.specs.InOrderLaws.{numbered_more}
use Rattle.text_board.specs.AttributeItems.{IsAttributeIn}
use Rattle.text_board.specs.Faults.{attribute_faults_from}
use Rattle.text_fields.specs.Faults.{first}
use Rattle.toml.specs.declared.value.Value.{Value}
use Rattle.toml.specs.View.{view}
use Rattle.text_fields.specs.Ranges.{is_table}
use Rattle.text_fields.proofs.Members.{each_passes, next_zip, read_so_far}
use Rattle.text_board.proofs.AttributeFields.{attributes_left, attribute_first}
use Rattle.text_board.proofs.attribute_items.attributes_of.Goals as goal

pub attribute_at-requires-clause-few : goal.attribute_at-requires-clause-few
attribute_at-requires-clause-few c = omega (arith, c.requires.few, c.loop-place-test.true)

pub attribute_at-requires-clause-table : goal.attribute_at-requires-clause-table
attribute_at-requires-clause-table c =
    each_passes (λ (value : Value). is_table (view value)) c.args.values.now c.loop-place.place c.index-values-place.result c.requires.tables c.loop-place-test.true c.index-values-place.is

pub returns-clause-sound : goal.returns-clause-sound
returns-clause-sound c =
    let i = c.loop-place.place in
    let none : drop i c.args.values.now ≡ [] = drop_all i c.args.values.now c.loop-place-test.false in
    c.loop-place.invariant.left ∙ ap (λ values. attribute_faults_from i (map view values)) none

pub returns-clause-held : goal.returns-clause-held
returns-clause-held c = rw (take_all c.loop-place.place c.args.values.now c.loop-place-test.false) at c.loop-place.invariant.zip

pub returns-in_err-attribute-clause-err : goal.returns-in_err-attribute-clause-err
returns-in_err-attribute-clause-err c =
    let p = err_from_is_err_and c.from_residual.result c.from_residual.ensures.1 in
    rw (p.1, p.2) (elim c.in_err-attribute.ensures.err [
      | inl memory ↦ inl memory
      | inr counts ↦ inr (ap first c.loop-place.invariant.left ∙ attribute_first c.args.values.now c.loop-place.place c.index-values-place.result c.loop-place-test.true c.index-values-place.is c.in_err-attribute.field-0.0 counts)
    ])

pub loop-place-preserved : goal.loop-place-preserved
loop-place-preserved c =
    let values = c.args.values.now in
    let i = c.loop-place.place in
    let v = c.index-values-place.result in
    let before = c.loop-place.attributes.items in
    let attribute = c.in_ok-attribute.attribute in
    let within : i < length values = c.loop-place-test.true in
    let so_far : length before ≡ i = read_so_far IsAttributeIn values i before (omega (arith, within)) c.loop-place.invariant.zip in
    let pushed : c.push.new.self.items ≡ before ++ attribute ∷ [] = c.in-Ok.ensures.items in
    rw pushed (record {
      zip = next_zip values i v within c.index-values-place.is IsAttributeIn before attribute c.loop-place.invariant.zip c.in_ok-attribute.ensures.held;
      handles = numbered_more (λ (a : Attribute). a.handle) 0 before attribute c.loop-place.invariant.handles (omega (arith, c.in_ok-attribute.ensures.handle, so_far));
      left = c.loop-place.invariant.left ∙ attributes_left values i v within c.index-values-place.is c.in_ok-attribute.ensures.sound;
    })
