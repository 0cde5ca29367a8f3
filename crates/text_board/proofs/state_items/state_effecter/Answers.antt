use Rattle.std.proofs.Common.{◌≡◌, ◌≤◌, length, map, true}
use Rattle.std.proofs.lemmas.Slice.Zip.{AllZip-long}
use Rattle.std.specs.List.{AllZip}
use Rattle.record_base.specs.BoardSizes.{most_state_fields}
use Rattle.toml.specs.View.{view, table_view}
use Rattle.text_fields.specs.declared.field.Field.TheVariants as field
use Rattle.text_fields.specs.Trees.{members_in}
use Rattle.text_fields.specs.Ranges.{are_state_lists}
use Rattle.text_board.specs.Holds.{IsFieldIn, IsPresentIn}
use Rattle.text_board.proofs.StateFields.{state_told, lists_are}
use Rattle.text_board.proofs.state_items.state_effecter.Goals as goal

pub fields_of-requires-clause-lists : goal.fields_of-requires-clause-lists
fields_of-requires-clause-lists c =
    let are : are_state_lists (map view c.members_of-lists.result.now) ≡ true = rw (c.requires, ← c.members_of-lists.ensures) at c.value.ensures.within in
    (lists_are (map view c.members_of-lists.result.now) are).1.1

pub fields_of-requires-clause-current : goal.fields_of-requires-clause-current
fields_of-requires-clause-current c =
    rw (c.members_of-lists.ensures, ← c.value.ensures.listed, c.members_of.ensures) (rw c.requires at c.value-2.ensures.within)

pub unwrap-requires : goal.unwrap-requires
unwrap-requires c =
    let ds = map view c.members_of-lists.result.now in
    let fields = c.in_ok-fields.fields.items in
    let are : are_state_lists ds ≡ true = rw (c.requires, ← c.members_of-lists.ensures) at c.value.ensures.within in
    let there = lists_are ds are in
    let long : length fields ≡ length ds = AllZip-long IsFieldIn ds fields c.in_ok-fields.ensures.held in
    let some : 1 ≤ length fields = rw long there.0 in
    let few : length fields ≤ most_state_fields = rw long there.1.0 in
    c.new.ensures.made.1 (some, few)

pub returns-clause-held : goal.returns-clause-held
returns-clause-held c =
    let tree = table_view c.args.item.now.table.now in
    let names = rw c.unwrap.ensures at c.new.ensures.names in
    let fields = rw c.unwrap.ensures at c.new.ensures.fields in
    let state = state_told c.byte-enabled.result (rw c.requires at c.byte-enabled.ensures.least) (rw c.requires at c.byte-enabled.ensures.most) in
    let held : AllZip IsFieldIn (members_in field.States tree) c.in_ok-fields.fields.items = rw (c.value.ensures.listed, ← c.members_of-lists.ensures) c.in_ok-fields.ensures.held in
    let current : AllZip IsPresentIn (members_in field.Current tree) c.in_ok-fields.fields.items = rw (c.value-2.ensures.listed, ← c.members_of.ensures) c.in_ok-fields.ensures.current in
    record {
      numbered = rw names.0 c.word-id.ensures.held;
      state = rw (names.1, state) c.byte-enabled.ensures.held;
      fields = rw fields held;
      current = rw fields current;
    }
