use Rattle.std.proofs.Common.{◌≡◌, true, Some, length, rules, sym, ap, ◌∙◌}
use Rattle.record_base.specs.declared.threshold_masks.ThresholdMasks.{ThresholdMasks}
use Rattle.toml.specs.View.{view, table_view}
use Rattle.text_fields.specs.Trees.{bytes_in, number_in}
use Rattle.text_fields.specs.declared.field.Field.TheVariants as field
use Rattle.text_fields.specs.Ranges.{are_masks}
use Rattle.text_fields.proofs.TestFacts.{if_some, tests_thresholds}
use Rattle.text_fields.proofs.range.thresholds.Goals as goal

pub returns-in-Some-bytes-clause-made : goal.returns-in-Some-bytes-clause-made
returns-in-Some-bytes-clause-made c =
    let masks = c.in-Some.masks in
    let values = c.in-Some-bytes.values in
    let six : length values ≡ 6 = search rules in
    let readable : number_in field.Readable (table_view c.args.item.now) ≡ Some masks.readable = c.in-Some.ensures.readable in
    let settable : number_in field.Settable (table_view c.args.item.now) ≡ Some masks.settable = c.in-Some.ensures.settable in
    let held : bytes_in 6 (view c.args.value.now) ≡ Some values = sym c.bytes.ensures ∙ c.in-Some-bytes.is in
    let made : are_masks (number_in field.Readable (table_view c.args.item.now)) (number_in field.Settable (table_view c.args.item.now)) ≡ true = sym c.in-Some.ensures.made in
    rw (made, readable, settable, held) (tests_thresholds c.new.result masks values six c.new.ensures.made)

pub returns-in-Some-bytes-clause-readable : goal.returns-in-Some-bytes-clause-readable
returns-in-Some-bytes-clause-readable c =
    if_some c.new.result (λ t parts. c.in-Some.ensures.readable ∙ ap (λ (masks : ThresholdMasks). Some masks.readable) (sym parts.0)) c.new.ensures.parts

pub returns-in-Some-bytes-clause-settable : goal.returns-in-Some-bytes-clause-settable
returns-in-Some-bytes-clause-settable c =
    if_some c.new.result (λ t parts. c.in-Some.ensures.settable ∙ ap (λ (masks : ThresholdMasks). Some masks.settable) (sym parts.0)) c.new.ensures.parts

pub returns-in-Some-bytes-clause-values : goal.returns-in-Some-bytes-clause-values
returns-in-Some-bytes-clause-values c =
    if_some c.new.result (λ t parts. sym c.bytes.ensures ∙ c.in-Some-bytes.is ∙ ap Some (sym parts.1)) c.new.ensures.parts
