use Rattle.std.proofs.Common.{◌≡◌, ◌++◌, ◌∷◌, [], ◌+◌, ◌<◌, take, length, sym, ◌∙◌, ap, subst, arith}
use Rattle.std.proofs.lemmas.List.{take_more, length-take}
use Rattle.record_base.specs.InOrder.{AreNumbered}
use Rattle.record_base.specs.InOrderLaws.{numbered_more, number_at}
use Rattle.record_base.proofs.in_order.are_numbered.Goals as goal

pub returns-then-from-next : goal.returns-then-from-next
returns-then-from-next g c = (
  λ h. cc,
  λ all.
      let number_of = g.T.Numbered.number_of in
      let at = number_at number_of c.args.first c.args.items.now all c.loop-item.item-index c.item-item.result c.loop-item-test.true in
      absurd (c.if-from-next.true (c.from.ensures ∙ c.number.ensures ∙ ap number_of c.item-item.is ∙ at ∙ sym c.loop-item.invariant.next)),
)

pub loop-item-preserved : goal.loop-item-preserved
loop-item-preserved g c =
    let number_of = g.T.Numbered.number_of in
    let item = c.item-item.result in
    let i = c.loop-item.item-index in
    let before = take i c.args.items.now in
    let within : i < length c.args.items.now = c.loop-item-test.true in
    let more : take (i + 1) c.args.items.now ≡ before ++ item ∷ [] =
    take_more c.args.items.now i item within ∙ ap (λ x. before ++ x ∷ []) (sym c.item-item.is) in
    let long : length before ≡ i = omega (arith, length-take i c.args.items.now, within) in
    let is : number_of item ≡ c.args.first + length before =
    sym c.number.ensures ∙ sym c.from.ensures ∙ c.if-from-next.false ∙ c.loop-item.invariant.next ∙ ap (λ n. c.args.first + n) (sym long) in
    record {
      next = omega (arith, c.loop-item.invariant.next);
      bounded = omega (arith, c.if-from-next.false, c.from.ensures, c.number.type_inv);
      numbered = subst (AreNumbered number_of c.args.first) (sym more) (numbered_more number_of c.args.first before item c.loop-item.invariant.numbered is);
    }
