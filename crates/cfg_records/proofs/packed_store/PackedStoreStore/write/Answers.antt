use Rattle.std.proofs.Common.{◌≡◌, ◌++◌, ℕ, List, length, take, drop, IsTrue, sym, ◌∙◌, ap, subst, arith}
use Rattle.record_base.specs.Keys.{is_length}
use Rattle.cfg_records.specs.Image.{Offsets, IsImage, WroteAt, records_in}
use Rattle.cfg_records.specs.ImagePlaces.{offset_of}
use Rattle.cfg_records.proofs.Images.{whole, its_kind, image_written, records_written}
use Rattle.cfg_records.proofs.packed_store.PackedStoreStore.write.Goals as goal

pub invariant_of-self : goal.invariant_of-self
invariant_of-self c =
    let store = c.args.self.now in
    let old : List ℕ = store.bytes.items in
    let new : List ℕ = c.write_at.new.bytes in
    let offsets : Offsets = offset_of store.places in
    let wrote : WroteAt old new c.args.place c.args.value.now = subst (λ (bytes : List ℕ). WroteAt bytes new c.args.place c.args.value.now) c.as_mut_slice.ensures.value c.write_at.ensures in
    let all : take store.bytes.len (new ++ drop (length new) old) ≡ new = whole old new store.bytes.len (omega (arith, store.bytes.ok.0)) wrote.same_length in
    record { image = subst (λ (bytes : List ℕ). IsImage bytes offsets) (sym all) (image_written old new offsets c.requires.0 c.args.place c.args.value.now store.image c.requires.1 c.requires.2 wrote) }

pub returns-clause-records : goal.returns-clause-records
returns-clause-records c = λ key is.
    let store = c.args.self.now in
    let old : List ℕ = store.bytes.items in
    let new : List ℕ = c.write_at.new.bytes in
    let offsets : Offsets = offset_of store.places in
    let place : ℕ = c.args.place in
    let value : List ℕ = c.args.value.now in
    let wrote : WroteAt old new place value = subst (λ (bytes : List ℕ). WroteAt bytes new place value) c.as_mut_slice.ensures.value c.write_at.ensures in
    let all : take store.bytes.len (new ++ drop (length new) old) ≡ new = whole old new store.bytes.len (omega (arith, store.bytes.ok.0)) wrote.same_length in
    let fits : IsTrue (is_length key (length value)) = its_kind old offsets c.requires.0 key place (length value) store.image c.requires.1 is c.requires.2 in
    ap (λ (bytes : List ℕ). records_in bytes offsets) all ∙ records_written old new offsets key place value store.image is fits wrote
