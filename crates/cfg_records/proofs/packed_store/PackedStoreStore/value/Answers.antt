use Rattle.std.proofs.Common.{◌+◌, ◌≤◌, ℕ, List, length, sym, subst}
use Rattle.cfg_records.specs.Image.{length_at}
use Rattle.cfg_records.proofs.packed_store.PackedStoreStore.value.Goals as goal

pub value_at-requires : goal.value_at-requires
value_at-requires c =
    let store = c.args.self.now in
    let place : ℕ = c.args.place in
    subst (λ (bytes : List ℕ). place + 2 + length_at bytes place ≤ length bytes) (sym c.as_slice.ensures.value)
    (store.image.within c.requires.0 place (length_at store.bytes.items place) c.requires.1 (store.image.of_kind c.requires.0 place c.requires.1))
