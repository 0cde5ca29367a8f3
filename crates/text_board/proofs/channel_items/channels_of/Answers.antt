use Rattle.std.proofs.Common.{◌≡◌, ◌+◌, ◌++◌, ◌∷◌, [], map, take, subst, sym, ◌∙◌, ap}
use Rattle.toml.specs.declared.value.Value.{Value}
use Rattle.std.proofs.lemmas.List.{take_all, append-nil}
use Rattle.std.proofs.lemmas.List.Elements.{filter-append}
use Rattle.std.proofs.lemmas.Slice.Zip.{all_zipped_more}
use Rattle.text_fields.specs.Ranges.{is_table}
use Rattle.toml.specs.View.{view, table_view}
use Rattle.text_fields.specs.Trees.{table_of}
use Rattle.text_fields.specs.Faults.{field_faults}
use Rattle.text_board.specs.Faults.{has_sessions, channel_rows}
use Rattle.text_board.specs.Holds.{IsChannelIn, HoldsChannel, serves, with_sessions}
use Rattle.text_fields.proofs.Members.{each_passes, taken_more}
use Rattle.text_board.proofs.ChannelFields.{with_rows, sound_at, kept, left_out}
use Rattle.text_board.proofs.channel_items.channels_of.Goals as goal
use Rattle.text_board.proofs.channel_items.channels_of.Goals.{then-has_sessions+in-Ok, else-has_sessions}

pub channel-requires : goal.channel-requires
channel-requires c =
    let values = c.args.values.now in
    let v = c.value-item.result in
    let table : table_view c.table_at-table.result.now ≡ table_of (view v) = c.table_at-table.ensures in
    let sound = sound_at c.args.users values c.loop-value.value-index v c.requires.sound c.loop-value-test.true c.value-item.is in
    with_rows c.args.users (table_view c.table_at-table.result.now) (sym c.has_sessions.ensures ∙ c.if-has_sessions.true)
    (ap (λ t. field_faults (channel_rows c.args.users t) t) table ∙ sound)

pub table_at-table-requires : goal.table_at-table-requires
table_at-table-requires c =
    each_passes (λ (value : Value). is_table (view value)) c.args.values.now c.loop-value.value-index c.value-item.result c.requires.tables c.loop-value-test.true c.value-item.is

pub returns-clause-held : goal.returns-clause-held
returns-clause-held c = rw (take_all c.loop-value.value-index c.args.values.now c.loop-value-test.false) at c.loop-value.invariant

pub loop-value-preserved : goal.loop-value-preserved
loop-value-preserved c =
    let values = c.args.values.now in
    let i = c.loop-value.value-index in
    let v = c.value-item.result in
    let before = c.loop-value.channels.items in
    let table : table_view c.table_at-table.result.now ≡ table_of (view v) = c.table_at-table.ensures in
    let serves_is : serves (view v) ≡ c.has_sessions.result = ap has_sessions (sym table) ∙ sym c.has_sessions.ensures in
    let more : with_sessions (map view (take (i + 1) values)) ≡ with_sessions (map view (take i values)) ++ with_sessions (view v ∷ []) =
    ap with_sessions (taken_more values i v c.loop-value-test.true c.value-item.is) ∙ filter-append serves (map view (take i values)) (view v ∷ []) in
    elim c.if-has_sessions.branch [
      | then-has_sessions+in-Ok w ↦
          let pushed = ap (λ channels. channels.items) w.channels-is ∙ w.in-Ok.ensures.items in
          let holds : IsChannelIn (view v) w.channel.result = subst (λ t. HoldsChannel t w.channel.result) table w.channel.ensures in
          rw (pushed, more, kept serves (view v) (serves_is ∙ w.if-has_sessions.true))
          (all_zipped_more IsChannelIn (with_sessions (map view (take i values))) before (view v) w.channel.result c.loop-value.invariant holds)
      | else-has_sessions w ↦
          let same = ap (λ channels. channels.items) w.channels-is in
          rw (same, more, left_out serves (view v) (serves_is ∙ w.if-has_sessions.false), append-nil (with_sessions (map view (take i values)))) c.loop-value.invariant
    ]
