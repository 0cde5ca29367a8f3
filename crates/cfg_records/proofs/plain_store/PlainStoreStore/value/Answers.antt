use Rattle.std.proofs.Common.{◌≡◌, ℕ, List, Option, Some, slice_get, sym, ap, ◌∙◌, arith}
use Rattle.cfg_records.specs.Index.{place_of}
use Rattle.std.specs.Option.{option_map}
use Rattle.std.proofs.lemmas.Option.{get_or_from_slice_get}
use Rattle.record_base.specs.declared.key.Key.{Key}
use Rattle.cfg_records.specs.Records.{Pair, value_of}
use Rattle.cfg_records.specs.Places.{value_at}
use Rattle.cfg_records.proofs.Placed.{Stands, stands, inside}
use Rattle.cfg_records.proofs.plain_store.PlainStoreStore.value.Goals as goal

pub index-requires : goal.index-requires
index-requires c =
    let places : Key → Option ℕ = place_of c.args.self.now.places in
    omega (arith, inside c.args.self.now.records.items places c.args.self.now.placed c.requires.0 c.args.place c.requires.1, c.args.self.now.records.ok.0)

pub returns : goal.returns
returns c = λ key at.
    let pairs : List Pair = c.args.self.now.records.items in
    let place : ℕ = c.args.place in
    let had : Stands key (slice_get pairs place) = stands key (slice_get pairs place) (c.args.self.now.placed key place at) in
    let read : c.index.result.now ≡ had.pair = c.index.ensures ∙ get_or_from_slice_get pairs place had.pair c.index.result.now had.is_it in
    ap (value_at pairs) at
    ∙ ap (option_map value_of) had.is_it
    ∙ ap (λ (v : List ℕ). let found : Option (List ℕ) = Some v in found) (sym (c.value.ensures ∙ ap (λ (p : Pair). p.1) read))
