use Rattle.std.proofs.Common.{◌≡◌, ◌++◌, ◌∷◌, [], ◌+◌, take, sym, ◌∙◌, ap, subst, arith, refl}
use Rattle.std.proofs.lemmas.List.{take_more}
use Rattle.std.proofs.Math.Seq.{take-length}
use Rattle.record_base.specs.Distinct.{NamesDiffer}
use Rattle.record_base.proofs.Numbers.{numbers_differ-more, numbers_differ-twice}
use Rattle.record_base.proofs.distinct.numbers_differ.Goals as goal

pub loop-place-preserved : goal.loop-place-preserved
loop-place-preserved g c =
    let item = c.index-items-place.result in
    let before = take c.loop-place.place c.args.items.now in
    let more : take (c.loop-place.place + 1) c.args.items.now ≡ before ++ item ∷ [] =
    take_more c.args.items.now c.loop-place.place item (omega arith) ∙ ap (λ x. before ++ x ∷ []) (sym c.index-items-place.is) in
    subst (NamesDiffer g.T.Numbered.number_of) (sym more) (numbers_differ-more g.T.Numbered.number_of before item c.number.result c.number.ensures c.loop-place.invariant (sym c.is_taken.ensures ∙ c.if-is_taken.false))

pub returns : goal.returns
returns g c = (λ _. subst (NamesDiffer g.T.Numbered.number_of) (ap (λ n. take n c.args.items.now) (omega arith) ∙ take-length c.args.items.now) c.loop-place.invariant, λ _. refl)

pub returns-then-is_taken : goal.returns-then-is_taken
returns-then-is_taken g c = (
  λ h. cc,
  λ h. absurd (numbers_differ-twice g.T.Numbered.number_of c.args.items.now c.loop-place.place c.index-items-place.result c.number.result c.number.ensures (omega arith) c.index-items-place.is (sym c.is_taken.ensures ∙ c.if-is_taken.true) h),
)
