use Rattle.std.proofs.Common.{◌≡◌, take}
use Rattle.cfg_records.specs.Index.{place_of}
use Rattle.record_base.specs.declared.key.Key.{Key}
use Rattle.cfg_records.specs.Records.{records_of, KeysDiffer}
use Rattle.cfg_records.specs.Places.{value_at, ArePlaced}
use Rattle.cfg_records.proofs.plain_store.places_in.Given as goal

abbrev pub invariant-loop-place : goal.invariant-loop-place
invariant-loop-place l = record {
  placed : ArePlaced (take l.place l.pairs) (place_of l.places);
  written : (key : Key) → value_at (take l.place l.pairs) (place_of l.places key) ≡ records_of (take l.place l.pairs) key;
  differ : KeysDiffer (take l.place l.pairs);
}
