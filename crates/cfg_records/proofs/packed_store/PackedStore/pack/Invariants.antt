use Rattle.std.proofs.Common.{◌≡◌, take}
use Rattle.record_base.specs.declared.key.Key.{Key}
use Rattle.cfg_records.specs.Records.{records_of}
use Rattle.cfg_records.specs.Image.{IsImage, records_in}
use Rattle.cfg_records.specs.ImagePlaces.{offset_of}
use Rattle.cfg_records.proofs.packed_store.PackedStore.pack.Given as goal

abbrev pub invariant-loop-key : goal.invariant-loop-key
invariant-loop-key l = record {
  image : IsImage l.bytes.items (offset_of l.places);
  written : (key : Key) → records_in l.bytes.items (offset_of l.places) key ≡ records_of (take l.key-index l.pairs) key;
}
