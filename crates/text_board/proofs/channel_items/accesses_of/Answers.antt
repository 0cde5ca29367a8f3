use Rattle.std.proofs.Common.{◌≡◌, ◌+◌, ◌++◌, ◌∷◌, [], map, take, length, sym, ◌∙◌, ap, arith}
use Rattle.toml.specs.declared.value.Value.{Value}
use Rattle.std.proofs.lemmas.List.{take_all, append-nil, map-append, length-map}
use Rattle.std.proofs.lemmas.List.Elements.{filter-append}
use Rattle.std.proofs.lemmas.List.Folds.{list_all-map}
use Rattle.std.specs.List.{list_all}
use Rattle.toml.specs.View.{view, table_view}
use Rattle.text_fields.specs.declared.field.Field.TheVariants as field
use Rattle.text_fields.specs.Trees.{table_of, number_in, members_in}
use Rattle.text_fields.specs.Ranges.{is_table, may_do, or_zero}
use Rattle.text_fields.specs.Faults.{field_faults}
use Rattle.text_board.specs.Faults.{has_sessions, channel_rows}
use Rattle.text_board.specs.Holds.{parts_of, on_channel, accesses_in, serves, with_sessions}
use Rattle.text_fields.proofs.Members.{each_passes, taken_more}
use Rattle.text_board.proofs.ChannelLists.{accesses_more}
use Rattle.text_board.proofs.ChannelFields.{number_below, with_rows, users_told, sound_at, kept, left_out}
use Rattle.text_board.proofs.channel_items.accesses_of.Goals as goal
use Rattle.text_board.proofs.channel_items.accesses_of.Goals.{then-has_sessions+in_ok-on+in-Ok, else-has_sessions}

pub channel_in-channel-requires : goal.channel_in-channel-requires
channel_in-channel-requires c =
    let v = c.value-item.result in
    let table : table_view c.table_at-table.result.now ≡ table_of (view v) = c.table_at-table.ensures in
    let sound = sound_at c.args.users c.args.values.now c.loop-value.value-index v c.requires.sound c.loop-value-test.true c.value-item.is in
    number_below c.args.users (table_view c.table_at-table.result.now) (ap (λ t. field_faults (channel_rows c.args.users t) t) table ∙ sound)

pub accesses_on-requires-clause-few : goal.accesses_on-requires-clause-few
accesses_on-requires-clause-few c =
    let v = c.value-item.result in
    let tree = table_view c.table_at-table.result.now in
    let table : tree ≡ table_of (view v) = c.table_at-table.ensures in
    let sound = ap (λ t. field_faults (channel_rows c.args.users t) t) table ∙ sound_at c.args.users c.args.values.now c.loop-value.value-index v c.requires.sound c.loop-value-test.true c.value-item.is in
    let told = users_told c.args.users tree (with_rows c.args.users tree (sym c.has_sessions.ensures ∙ c.if-has_sessions.true) sound) in
    let long : length c.members_in.result.now ≡ c.args.users = sym (length-map c.members_in.result.now view) ∙ ap length c.members_in.ensures ∙ told.0 in
    omega (arith, long, c.requires.few)

pub accesses_on-requires-clause-bytes : goal.accesses_on-requires-clause-bytes
accesses_on-requires-clause-bytes c =
    let v = c.value-item.result in
    let tree = table_view c.table_at-table.result.now in
    let table : tree ≡ table_of (view v) = c.table_at-table.ensures in
    let sound = ap (λ t. field_faults (channel_rows c.args.users t) t) table ∙ sound_at c.args.users c.args.values.now c.loop-value.value-index v c.requires.sound c.loop-value-test.true c.value-item.is in
    let told = users_told c.args.users tree (with_rows c.args.users tree (sym c.has_sessions.ensures ∙ c.if-has_sessions.true) sound) in
    sym (list_all-map may_do view c.members_in.result.now) ∙ ap (list_all may_do) c.members_in.ensures ∙ told.1

pub table_at-table-requires : goal.table_at-table-requires
table_at-table-requires c =
    each_passes (λ (value : Value). is_table (view value)) c.args.values.now c.loop-value.value-index c.value-item.result c.requires.tables c.loop-value-test.true c.value-item.is

pub returns-clause-held : goal.returns-clause-held
returns-clause-held c = rw (take_all c.loop-value.value-index c.args.values.now c.loop-value-test.false) at c.loop-value.invariant

pub loop-value-preserved : goal.loop-value-preserved
loop-value-preserved c =
    let values = c.args.values.now in
    let i = c.loop-value.value-index in
    let v = c.value-item.result in
    let before = c.loop-value.accesses.items in
    let tree = table_view c.table_at-table.result.now in
    let table : tree ≡ table_of (view v) = c.table_at-table.ensures in
    let serves_is : serves (view v) ≡ c.has_sessions.result = ap has_sessions (sym table) ∙ sym c.has_sessions.ensures in
    let so_far = with_sessions (map view (take i values)) in
    let more : with_sessions (map view (take (i + 1) values)) ≡ so_far ++ with_sessions (view v ∷ []) =
    ap with_sessions (taken_more values i v c.loop-value-test.true c.value-item.is) ∙ filter-append serves (map view (take i values)) (view v ∷ []) in
    elim c.if-has_sessions.branch [
      | then-has_sessions+in_ok-on+in-Ok w ↦
          let on = w.in_ok-on.on.items in
          let shown : w.as_slice.result.now ≡ on = w.as_slice.ensures.value in
          let pushed = ap (λ accesses. accesses.items) w.accesses-is ∙ w.in-Ok.ensures.items ∙ ap (λ more. before ++ more) shown in
          let number : or_zero (number_in field.Number (table_of (view v))) ≡ w.channel_in-channel.result.number =
          ap (λ t. or_zero (number_in field.Number t)) (sym table) ∙ ap or_zero w.channel_in-channel.ensures in
          let users : map view w.members_in.result.now ≡ members_in field.Users (table_of (view v)) = w.members_in.ensures ∙ ap (members_in field.Users) table in
          rw (pushed, map-append, more, kept serves (view v) (serves_is ∙ w.if-has_sessions.true), accesses_more so_far (view v), number)
          (ap (λ told. told ++ map parts_of on) c.loop-value.invariant
          ∙ ap (λ told. accesses_in so_far ++ told) (w.in_ok-on.ensures.held ∙ ap (on_channel w.channel_in-channel.result.number 1) users))
      | else-has_sessions w ↦
          let same = ap (λ accesses. accesses.items) w.accesses-is in
          rw (same, more, left_out serves (view v) (serves_is ∙ w.if-has_sessions.false), append-nil so_far) c.loop-value.invariant
    ]
