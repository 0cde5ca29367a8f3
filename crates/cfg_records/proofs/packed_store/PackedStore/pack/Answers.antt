use Rattle.std.proofs.Common.{◌≡◌, List, length, take, ◌∙◌, ap, arith}
use Rattle.std.proofs.Math.Seq.{take-length}
use Rattle.cfg_records.specs.Records.{Pair, records_of}
use Rattle.cfg_records.specs.Image.{Offsets, records_in}
use Rattle.cfg_records.specs.ImagePlaces.{offset_of}
use Rattle.cfg_records.proofs.Packs.{no_offset, image_more, written_more}
use Rattle.cfg_records.proofs.packed_store.PackedStore.pack.Goals as goal

pub insert-requires : goal.insert-requires
insert-requires c =
    let held = c.loop-key in
    no_offset c.args.pairs.now held.key-index c.loop-key-item.result held.bytes.items (offset_of held.places) c.requires.differ (omega arith) c.loop-key-item.is held.invariant.image held.invariant.written

pub loop-key-preserved : goal.loop-key-preserved
loop-key-preserved c =
    let held = c.loop-key in
    let pair : Pair = c.loop-key-item.result in
    let after : Offsets = offset_of c.insert.new.self in
    let at_end : c.len.result ≡ length held.bytes.items = omega (arith, c.len.ensures, held.bytes.ok.0) in
    record {
      image = image_more c.args.pairs.now held.key-index pair held.bytes.items (offset_of held.places) c.requires.differ (omega arith) c.loop-key-item.is held.invariant.image held.invariant.written
          c.requires.fit c.add.new.bytes.items after c.len.result c.longest.result c.as_slice.result.now at_end c.as_slice.ensures c.in_ok-insert.ensures c.longest.ensures.bound c.in_ok-add.ensures;
      written = written_more c.args.pairs.now held.key-index pair held.bytes.items (offset_of held.places) c.requires.differ (omega arith) c.loop-key-item.is held.invariant.image held.invariant.written
          c.requires.fit c.add.new.bytes.items after c.len.result c.longest.result c.as_slice.result.now at_end c.as_slice.ensures c.in_ok-insert.ensures c.longest.ensures.bound c.in_ok-add.ensures;
    }

pub returns : goal.returns
returns c =
    let packed : records_in c.loop-key.bytes.items (offset_of c.loop-key.places) ≡ records_of c.args.pairs.now = λ i key.
    (c.loop-key.invariant.written key
    ∙ ap (λ (pairs : List Pair). records_of pairs key) (ap (λ n. take n c.args.pairs.now) (omega arith) ∙ take-length c.args.pairs.now)) i in
    ap (records_in c.loop-key.bytes.items) c.note_rows.ensures ∙ packed
