use Rattle.std.proofs.Common.{◌≡◌, ◌∙◌, ◌≤◌, ◌<◌, Some, is_some, ap, sym}
use Rattle.toml.specs.View.{table_view}
use Rattle.record_base.specs.NumericSize.{numbers_of, rank, bytes_of, number_in}
use Rattle.record_base.specs.NumericEffecter.{IsNumeric}
use Rattle.text_fields.specs.declared.field.Field.TheVariants as field
use Rattle.text_fields.specs.Numeric.{size_in, sized_in}
use Rattle.text_fields.proofs.Rows.{all_checked}
use Rattle.text_fields.proofs.Sizes.{field_fits, bytes_long, bytes_tell, order_of, ordered}
use Rattle.text_board.proofs.StateFields.{state_told}
use Rattle.text_board.proofs.EffecterFields.{size_found, within_bounds}
use Rattle.text_board.proofs.effecters.numeric_effecter.Goals as goal

pub unwrap-current-requires : goal.unwrap-current-requires
unwrap-current-requires c =
    let tree = table_view c.args.item.now.table.now in
    let size = c.range-range.result.size in
    let is : size_in tree ≡ Some size = size_found tree size c.range-range.ensures.size in
    let inside = within_bounds tree size is (all_checked tree c.args.item.now.sound c.requires).1.1.1.1.1.0 in
    ap is_some (c.sized_in.ensures ∙ (ordered size (sized_in size field.Lower tree) (sized_in size field.Current tree) inside.above).is_high)

pub unwrap-requires : goal.unwrap-requires
unwrap-requires c =
    let tree = table_view c.args.item.now.table.now in
    let range = c.range-range.result in
    let size = range.size in
    let n = c.unwrap-current.result in
    let is : size_in tree ≡ Some size = size_found tree size c.range-range.ensures.size in
    let inside = within_bounds tree size is (all_checked tree c.args.item.now.sound c.requires).1.1.1.1.1.0 in
    let current : sized_in size field.Current tree ≡ Some n = sym c.sized_in.ensures ∙ c.unwrap-current.ensures in
    let fits : n < numbers_of size = field_fits size field.Current tree n current in
    let tells : number_in (bytes_of size n) ≡ n = bytes_tell size n fits in
    let above : rank size range.lower ≤ rank size n = order_of size _ _ range.lower n inside.above c.range-range.ensures.lower current in
    let below : rank size n ≤ rank size range.upper = order_of size _ _ n range.upper inside.below current c.range-range.ensures.upper in
    let valid : IsNumeric range (bytes_of size n) = record { of_size = bytes_long size n; above = rw tells above; below = rw tells below } in
    c.new.ensures.made.1 (fits, valid)

pub returns : goal.returns
returns c =
    let tree = table_view c.args.item.now.table.now in
    let names = rw c.unwrap.ensures at c.new.ensures.names in
    let numbers = rw c.unwrap.ensures at c.new.ensures.numbers in
    let state = state_told c.byte-enabled.result (rw c.requires at c.byte-enabled.ensures.least) (rw c.requires at c.byte-enabled.ensures.most) in
    let current : sized_in c.range-range.result.size field.Current tree ≡ Some c.unwrap-current.result = sym c.sized_in.ensures ∙ c.unwrap-current.ensures in
    record {
      numbered = rw names.0 c.word-id.ensures.held;
      state = rw (names.1, state) c.byte-enabled.ensures.held;
      range = rw numbers.0 c.range-range.ensures;
      current = rw (numbers.0, numbers.1) current;
    }
