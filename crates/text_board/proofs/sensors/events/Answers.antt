use Rattle.std.proofs.Common.{◌≡◌, ◌<◌, ◌≤◌, Some, sym, ◌∙◌, ap, arith}
use Rattle.toml.specs.View.{table_view}
use Rattle.record_base.specs.Masks.{has}
use Rattle.record_base.specs.Sensor.EventEnable.{flags_byte}
use Rattle.record_base.specs.declared.event_enable.EventMasks.{EventMasks}
use Rattle.text_fields.specs.declared.field.Field.TheVariants as field
use Rattle.text_fields.proofs.Rows.{all_checked, same_value}
use Rattle.text_board.proofs.Events.{flags_of, flags_are, events_of, below_word, supported_events}
use Rattle.text_board.proofs.sensors.events.Goals as goal

pub byte_in-flags-requires : goal.byte_in-flags-requires
byte_in-flags-requires c =
    let flags = flags_of (table_view c.args.item.now.table.now) field.Flags (all_checked (table_view c.args.item.now.table.now) c.args.item.now.sound c.requires).1.1.1.1.1.1.1.0 in
    (flags.number, (flags.found, flags.byte))

pub word_in-requires : goal.word_in-requires
word_in-requires c = below_word (events_of (table_view c.args.item.now.table.now) field.Assert (all_checked (table_view c.args.item.now.table.now) c.args.item.now.sound c.requires).1.1.1.1.1.1.1.1.0)

pub word_in-requires-2 : goal.word_in-requires-2
word_in-requires-2 c = below_word (events_of (table_view c.args.item.now.table.now) field.Deassert (all_checked (table_view c.args.item.now.table.now) c.args.item.now.sound c.requires).1.1.1.1.1.1.1.1.1.0)

pub unwrap-requires : goal.unwrap-requires
unwrap-requires c =
    let tree = table_view c.args.item.now.table.now in
    let sound = all_checked tree c.args.item.now.sound c.requires in
    let supported = c.word-supported.result in
    let few : supported ≤ 4095 = rw c.requires at c.word-supported.ensures.most in
    let twelve : supported < 4096 = omega (arith, few) in
    c.new.ensures.made.1 (
      twelve,
      supported_events c.word_in.result supported (events_of tree field.Assert sound.1.1.1.1.1.1.1.1.0) c.word_in.ensures c.word-supported.ensures.held,
      supported_events c.word_in-2.result supported (events_of tree field.Deassert sound.1.1.1.1.1.1.1.1.1.0) c.word_in-2.ensures c.word-supported.ensures.held,
    )

pub returns : goal.returns
returns c =
    let tree = table_view c.args.item.now.table.now in
    let flags = flags_of tree field.Flags (all_checked tree c.args.item.now.sound c.requires).1.1.1.1.1.1.1.0 in
    let byte = c.byte_in-flags.result in
    let same = same_value flags.number byte _ flags.found c.byte_in-flags.ensures in
    let whole : flags_byte (has byte 7) (has byte 6) ≡ byte = rw (← same) (flags_are flags.number flags.byte flags.no_more) in
    let made = c.unwrap.ensures in
    let (messages, scanning) = rw made at c.new.ensures.flags in
    let (supported, enabled) = rw made at c.new.ensures.masks in
    let flagged : flags_byte c.unwrap.result.messages c.unwrap.result.scanning ≡ byte =
    ap (λ b. flags_byte b c.unwrap.result.scanning) (messages ∙ c.has-messages.ensures) ∙ ap (flags_byte (has byte 7)) (scanning ∙ c.has-scanning.ensures) ∙ whole in
    record {
      supported = c.word-supported.ensures.held ∙ ap Some (sym supported);
      flags = c.byte_in-flags.ensures ∙ ap Some (sym flagged);
      assertions = c.word_in.ensures ∙ ap (λ (masks : EventMasks). Some masks.assertions) (sym enabled);
      deassertions = c.word_in-2.ensures ∙ ap (λ (masks : EventMasks). Some masks.deassertions) (sym enabled);
    }
