use Rattle.std.proofs.Common.{◌≡◌, ℕ, ◌∷◌, [], ◌++◌, ◌+◌, List, Option, Some, None, is_some, true, false, take, length, if◌then◌else◌, sym, ◌∙◌, subst, ap, arith, refl}
use Rattle.std.proofs.lemmas.List.{take_more, length-take}
use Rattle.std.proofs.Math.Seq.{take-length}
use Rattle.cfg_records.specs.Index.{place_of}
use Rattle.record_base.specs.declared.key.Key.{Key}
use Rattle.record_base.specs.Keys.{same_key}
use Rattle.cfg_records.specs.Records.{Records, Pair, with_record, records_of, KeysDiffer}
use Rattle.cfg_records.specs.Places.{value_at, ArePlaced}
use Rattle.cfg_records.proofs.Pairs.{records_of-push, KeysDiffer-push, KeysDiffer-twice}
use Rattle.cfg_records.proofs.Placed.{placed_push, values_push, has_place}
use Rattle.cfg_records.proofs.plain_store.places_in.Goals as goal

found : (place : Option ℕ) → is_some place ≡ true → (n : ℕ) × (place ≡ Some n)
found (Some n) some = (n, refl)
found None some = absurd cc

absent_of : (place : Option ℕ) → is_some place ≡ false → place ≡ None
absent_of None none = refl
absent_of (Some n) none = absurd cc

pub returns-then-is_some-clause-differ : goal.returns-then-is_some-clause-differ
returns-then-is_some-clause-differ c =
    let pair : Pair = c.index-pairs-place.result in
    let before : List Pair = take c.loop-place.place c.args.pairs.now in
    let at = found c.in_ok-insert.field-0 (sym c.is_some.ensures ∙ c.if-is_some.true) in
    let had = has_place before (place_of c.loop-place.places) c.loop-place.invariant.placed pair.0 at.0 (sym c.in_ok-insert.ensures.old ∙ at.1) in (
      λ no. absurd cc,
      λ differ. absurd (KeysDiffer-twice c.args.pairs.now c.loop-place.place pair had.0 (omega arith) c.index-pairs-place.is (sym (c.loop-place.invariant.written pair.0) ∙ had.1) differ),
    )

pub loop-place-preserved : goal.loop-place-preserved
loop-place-preserved c =
    let pair : Pair = c.index-pairs-place.result in
    let before : List Pair = take c.loop-place.place c.args.pairs.now in
    let places : Key → Option ℕ = place_of c.loop-place.places in
    let places_then : Key → Option ℕ = place_of c.insert.new.self in
    let more : take (c.loop-place.place + 1) c.args.pairs.now ≡ before ++ pair ∷ [] =
    take_more c.args.pairs.now c.loop-place.place pair (omega arith) ∙ ap (λ (p : Pair). before ++ p ∷ []) (sym c.index-pairs-place.is) in
    let absent : places pair.0 ≡ None = sym c.in_ok-insert.ensures.old ∙ absent_of c.in_ok-insert.field-0 (sym c.is_some.ensures ∙ c.if-is_some.false) in
    let new : records_of before pair.0 ≡ None = sym (c.loop-place.invariant.written pair.0) ∙ ap (value_at before) absent in
    let at : c.loop-place.place ≡ length before = omega (arith, length-take c.loop-place.place c.args.pairs.now) in
    let added : (key : Key) → places_then key ≡ (if same_key pair.0 key then Some (length before) else places key) =
    λ key. c.in_ok-insert.ensures.updates key ∙ ap (λ (n : ℕ). if same_key pair.0 key then Some n else places key) at in
    let was : (λ (key : Key). value_at before (places key)) ≡ records_of before = λ i key. c.loop-place.invariant.written key i in
    record {
      placed = subst (λ (ps : List Pair). ArePlaced ps places_then) (sym more) (placed_push before pair places places_then c.loop-place.invariant.placed added);
      written = λ key.
          ap (λ (ps : List Pair). value_at ps (places_then key)) more
          ∙ values_push before pair places places_then c.loop-place.invariant.placed added key
          ∙ ap (λ (r : Records). with_record r pair.0 pair.1 key) was
          ∙ sym (ap (λ (r : Records). r key) (records_of-push before pair new))
          ∙ ap (λ (ps : List Pair). records_of ps key) (sym more);
      differ = subst KeysDiffer (sym more) (KeysDiffer-push before pair c.loop-place.invariant.differ new);
    }

pub returns-clause-differ : goal.returns-clause-differ
returns-clause-differ c = (λ yes. subst KeysDiffer (ap (λ n. take n c.args.pairs.now) (omega arith) ∙ take-length c.args.pairs.now) c.loop-place.invariant.differ, λ differ. refl)
