use Rattle.std.proofs.Common.{◌≡◌, ℕ, List, length, Option, slice_get, IsTrue, ap, subst, sym, ◌∙◌, arith}
use Rattle.cfg_records.specs.Index.{place_of}
use Rattle.std.proofs.lemmas.Option.{get_or_from_slice_get}
use Rattle.record_base.specs.declared.key.Key.{Key}
use Rattle.cfg_records.specs.Records.{Records, Pair, with_record}
use Rattle.record_base.specs.Keys.{is_length}
use Rattle.cfg_records.specs.Places.{value_at}
use Rattle.cfg_records.proofs.Placed.{Stands, stands, inside, written, still_placed}
use Rattle.cfg_records.proofs.plain_store.PlainStoreStore.write.Goals as goal

pub index_mut-requires : goal.index_mut-requires
index_mut-requires c =
    let places : Key → Option ℕ = place_of c.args.self.now.places in
    omega (arith, inside c.args.self.now.records.items places c.args.self.now.placed c.requires.0 c.args.place c.requires.1, c.args.self.now.records.ok.0)

pub write-requires : goal.write-requires
write-requires c =
    let pairs : List Pair = c.args.self.now.records.items in
    let place : ℕ = c.args.place in
    let key : Key = c.requires.0 in
    let had : Stands key (slice_get pairs place) = stands key (slice_get pairs place) (c.args.self.now.placed key place c.requires.1) in
    let read : c.index_mut.result.now ≡ had.pair = c.index_mut.ensures.value ∙ get_or_from_slice_get pairs place had.pair c.index_mut.result.now had.is_it in
    subst (λ (k : Key). IsTrue (is_length k (length c.args.value.now))) (sym (ap (λ (p : Pair). p.0) read ∙ had.its)) c.requires.2

pub invariant_of-self : goal.invariant_of-self
invariant_of-self c =
    let pairs : List Pair = c.args.self.now.records.items in
    let places : Key → Option ℕ = place_of c.args.self.now.places in
    let place : ℕ = c.args.place in
    let key : Key = c.requires.0 in
    let had : Stands key (slice_get pairs place) = stands key (slice_get pairs place) (c.args.self.now.placed key place c.requires.1) in
    let read : c.index_mut.result.now ≡ had.pair = c.index_mut.ensures.value ∙ get_or_from_slice_get pairs place had.pair c.index_mut.result.now had.is_it in
    let new : Pair = c.write.new.self in
    record { placed = still_placed pairs places place new had.pair c.args.self.now.placed had.is_it (ap (λ (p : Pair). p.0) (c.write.ensures ∙ ap (λ (p : Pair). let q : Pair = (p.0, c.args.value.now) in q) read)) }

pub returns-clause-records : goal.returns-clause-records
returns-clause-records c = λ key at.
    let pairs : List Pair = c.args.self.now.records.items in
    let places : Key → Option ℕ = place_of c.args.self.now.places in
    let place : ℕ = c.args.place in
    let had : Stands key (slice_get pairs place) = stands key (slice_get pairs place) (c.args.self.now.placed key place at) in
    let new : Pair = c.write.new.self in
    let before : Records = λ (k : Key). value_at pairs (places k) in
    written pairs places key place new had.pair c.args.self.now.placed at had.is_it ∙ ap (λ (p : Pair). with_record before key p.1) c.write.ensures
