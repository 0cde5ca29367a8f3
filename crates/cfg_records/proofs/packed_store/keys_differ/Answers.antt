use Rattle.std.proofs.Common.{◌≡◌, ◌++◌, ◌∷◌, [], ◌+◌, List, take, sym, ◌∙◌, ap, subst, arith, refl}
use Rattle.std.proofs.lemmas.List.{take_more}
use Rattle.std.proofs.Math.Seq.{take-length}
use Rattle.cfg_records.specs.Records.{Pair, KeysDiffer}
use Rattle.cfg_records.proofs.Packs.{differ_more, differ_not}
use Rattle.cfg_records.proofs.packed_store.keys_differ.Goals as goal

pub loop-place-preserved : goal.loop-place-preserved
loop-place-preserved c =
    let pair : Pair = c.index-pairs-place.result in
    let before : List Pair = take c.loop-place.place c.args.pairs.now in
    let more : take (c.loop-place.place + 1) c.args.pairs.now ≡ before ++ pair ∷ [] =
    take_more c.args.pairs.now c.loop-place.place pair (omega arith) ∙ ap (λ (p : Pair). before ++ p ∷ []) (sym c.index-pairs-place.is) in
    subst KeysDiffer (sym more) (differ_more before pair c.loop-place.invariant (sym c.has_key.ensures ∙ c.if-has_key.false))

pub returns : goal.returns
returns c = (λ _. subst KeysDiffer (ap (λ n. take n c.args.pairs.now) (omega arith) ∙ take-length c.args.pairs.now) c.loop-place.invariant, λ _. refl)

pub returns-then-has_key : goal.returns-then-has_key
returns-then-has_key c = (
  λ h. cc,
  λ h. absurd (differ_not c.args.pairs.now c.loop-place.place c.index-pairs-place.result (omega arith) c.index-pairs-place.is (sym c.has_key.ensures ∙ c.if-has_key.true) h),
)
