use Rattle.std.proofs.Common.{◌≡◌, not, ◌+◌, ◌++◌, ◌∷◌, [], map, take, subst, sym, ◌∙◌, ap}
use Rattle.toml.specs.declared.value.Value.{Value}
use Rattle.std.proofs.lemmas.List.{take_all, append-nil}
use Rattle.std.proofs.lemmas.List.Elements.{filter-append}
use Rattle.std.proofs.lemmas.Slice.Zip.{all_zipped_more}
use Rattle.toml.specs.Data.{Data}
use Rattle.text_fields.specs.Ranges.{is_table}
use Rattle.toml.specs.View.{view, table_view}
use Rattle.text_fields.specs.declared.field.Field.TheVariants as field
use Rattle.text_fields.specs.Trees.{table_of, HasNumber}
use Rattle.text_fields.specs.Faults.{field_faults}
use Rattle.text_board.specs.Faults.{has_sessions, channel_rows}
use Rattle.text_board.specs.Holds.{IsNumberIn, serves, without_sessions}
use Rattle.text_fields.proofs.Members.{each_passes, taken_more}
use Rattle.text_board.proofs.ChannelFields.{number_below, sound_at, kept, left_out}
use Rattle.text_board.proofs.channel_items.sessionless_of.Goals as goal
use Rattle.text_board.proofs.channel_items.sessionless_of.Goals.{then-not-has_sessions+in-Ok, else-not-has_sessions}

pub channel_in-requires : goal.channel_in-requires
channel_in-requires c =
    let v = c.value-item.result in
    let table : table_view c.table_at-table.result.now ≡ table_of (view v) = c.table_at-table.ensures in
    let sound = sound_at c.args.users c.args.values.now c.loop-value.value-index v c.requires.sound c.loop-value-test.true c.value-item.is in
    number_below c.args.users (table_view c.table_at-table.result.now) (ap (λ t. field_faults (channel_rows c.args.users t) t) table ∙ sound)

pub table_at-table-requires : goal.table_at-table-requires
table_at-table-requires c =
    each_passes (λ (value : Value). is_table (view value)) c.args.values.now c.loop-value.value-index c.value-item.result c.requires.tables c.loop-value-test.true c.value-item.is

pub returns-clause-held : goal.returns-clause-held
returns-clause-held c = rw (take_all c.loop-value.value-index c.args.values.now c.loop-value-test.false) at c.loop-value.invariant

pub loop-value-preserved : goal.loop-value-preserved
loop-value-preserved c =
    let values = c.args.values.now in
    let i = c.loop-value.value-index in
    let v = c.value-item.result in
    let before = c.loop-value.channels.items in
    let lacks = λ (d : Data). not (serves d) in
    let table : table_view c.table_at-table.result.now ≡ table_of (view v) = c.table_at-table.ensures in
    let lacks_is : not (serves (view v)) ≡ not c.has_sessions.result = ap not (ap has_sessions (sym table) ∙ sym c.has_sessions.ensures) in
    let more : without_sessions (map view (take (i + 1) values)) ≡ without_sessions (map view (take i values)) ++ without_sessions (view v ∷ []) =
    ap without_sessions (taken_more values i v c.loop-value-test.true c.value-item.is) ∙ filter-append lacks (map view (take i values)) (view v ∷ []) in
    elim c.if-not-has_sessions.branch [
      | then-not-has_sessions+in-Ok w ↦
          let pushed = ap (λ channels. channels.items) w.channels-is ∙ w.in-Ok.ensures.items in
          let holds : IsNumberIn (view v) w.channel_in.result = subst (λ t. HasNumber field.Number t w.channel_in.result.number) table w.channel_in.ensures in
          rw (pushed, more, kept lacks (view v) (lacks_is ∙ ap not w.if-not-has_sessions.true))
          (all_zipped_more IsNumberIn (without_sessions (map view (take i values))) before (view v) w.channel_in.result c.loop-value.invariant holds)
      | else-not-has_sessions w ↦
          let same = ap (λ channels. channels.items) w.channels-is in
          rw (same, more, left_out lacks (view v) (lacks_is ∙ ap not w.if-not-has_sessions.false), append-nil (without_sessions (map view (take i values)))) c.loop-value.invariant
    ]
