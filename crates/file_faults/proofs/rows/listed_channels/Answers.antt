use Rattle.std.proofs.Common.{◌≡◌, ◌<◌, length, map, slice_index, ◌∙◌, arith}
use Rattle.std.proofs.Math.ListN.{length-set}
use Rattle.toml.specs.View.{view}
use Rattle.file_faults.specs.declared.rows.TheConstants.{NUMBERS}
use Rattle.text_board.specs.LanItems.{has_number, is_number_of}
use Rattle.text_board.proofs.LanFields.{any_of_map, listed_more}
use Rattle.file_faults.proofs.rows.listed_channels.Goals as goal

pub loop-place-preserved : goal.loop-place-preserved
loop-place-preserved c =
    let (long, so_far) = c.loop-place.invariant in
    let channels = c.args.channels.now in
    let i = c.loop-place.place in
    let n = slice_index NUMBERS i in
    let inside : i < length c.loop-place.listed = omega (arith, long, c.loop-place-test.true) in
    let told : c.is_number_of.result ≡ is_number_of (map view channels) n = c.is_number_of.ensures ∙ any_of_map (has_number n) view channels in
    rw told (length-set c.loop-place.listed i (is_number_of (map view channels) n) ∙ long, listed_more (is_number_of (map view channels)) NUMBERS c.loop-place.listed i c.loop-place-test.true inside so_far)
