use Rattle.std.proofs.Common.{◌≡◌, ◌||◌, length, take, ap, sym, ◌∙◌, arith}
use Rattle.std.proofs.Math.Seq.{take-length}
use Rattle.std.proofs.lemmas.List.Folds.{list_any_more}
use Rattle.std.specs.List.{list_any}
use Rattle.toml.specs.View.{view}
use Rattle.toml.specs.declared.value.Value.{Value}
use Rattle.text_fields.specs.Ranges.{is_offset, is_number}
use Rattle.plan_file.proofs.Changes.{has_none}
use Rattle.text_fields.proofs.Members.{each_passes}
use Rattle.plan_file.proofs.kind.event_enable.mask_of.Goals as goal

pub loop-offset-init : goal.loop-offset-init
loop-offset-init c = has_none

pub with_event-mask-requires : goal.with_event-mask-requires
with_event-mask-requires c = each_passes (λ (value : Value). is_offset (view value)) c.args.offsets.now c.loop-offset.offset-index c.offset-item.result c.requires c.loop-offset-test.true c.offset-item.is

pub loop-offset-preserved : goal.loop-offset-preserved
loop-offset-preserved c = λ offset.
    let values = c.args.offsets.now in
    let i = c.loop-offset.offset-index in
    let v = c.offset-item.result in
    let is = λ (value : Value). is_number offset (view value) in
    c.with_event-mask.ensures offset
    ∙ ap (λ b. b || is v) (c.loop-offset.invariant offset)
    ∙ ap (λ x. list_any is (take i values) || is x) c.offset-item.is
    ∙ sym (list_any_more is values i v c.loop-offset-test.true)

pub returns : goal.returns
returns c = λ offset.
    let values = c.args.offsets.now in
    let end : c.loop-offset.offset-index ≡ length values = omega arith in
    c.loop-offset.invariant offset ∙ ap (λ n. list_any (λ (value : Value). is_number offset (view value)) (take n values)) end ∙ ap (list_any (λ (value : Value). is_number offset (view value))) (take-length values)
