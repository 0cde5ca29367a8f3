use Rattle.std.proofs.Common.{ℕ, List, rules, sym, subst}
use Rattle.app_bmclab.proofs.NamedPlaces.{Left, left_behind, stuck, stuck_at_end}
use Rattle.app_bmclab.proofs.places.places_of.Goals as goal

pub returns-in_default-place_above : goal.returns-in_default-place_above
returns-in_default-place_above c =
    stuck c.args.word.now c.loop-first.places.items c.loop-first.low c.loop-first.rest.now c.loop-first.invariant.1 c.in-Some.first.now c.in-Some.behind.now c.in-Some.ensures.some
    c.in_default-place_above.ensures.none

pub loop-first-preserved : goal.loop-first-preserved
loop-first-preserved c = (
  search rules,
  subst (λ (places : List ℕ). Left c.args.word.now places c.in-Some-place_above.place c.in-Some.behind.now) (sym c.in_ok-push.ensures.items)
      (left_behind c.args.word.now c.loop-first.places.items c.loop-first.low c.loop-first.rest.now c.loop-first.invariant.1 c.in-Some.first.now c.in-Some.behind.now c.in-Some.ensures.some
      c.in-Some-place_above.place c.in-Some-place_above.ensures.some),
)

pub returns-in_default-place_above-2 : goal.returns-in_default-place_above-2
returns-in_default-place_above-2 c =
    stuck_at_end c.args.word.now c.loop-first.places.items c.loop-first.low c.loop-first.rest.now c.loop-first.invariant.1 c.in_default.ensures.none
    c.in_default-place_above-2.ensures.none
