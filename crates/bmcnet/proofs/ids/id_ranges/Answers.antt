use Rattle.std.proofs.Common.{List, rules, sym, subst}
use Rattle.app_show.specs.declared.keys.IdRange.{IdRange}
use Rattle.bmcnet.proofs.IdRanges.{Left, left_behind, stuck, stuck_at_end}
use Rattle.bmcnet.proofs.ids.id_ranges.Goals as goal

pub returns-in_default-id_range : goal.returns-in_default-id_range
returns-in_default-id_range c =
    stuck c.args.word.now c.loop-first.ranges.items c.loop-first.rest.now c.loop-first.invariant.1 c.in-Some.first.now c.in-Some.behind.now c.in-Some.ensures.some
    c.in_default-id_range.ensures.none

pub loop-first-preserved : goal.loop-first-preserved
loop-first-preserved c = (
  search rules,
  subst (λ (ranges : List IdRange). Left c.args.word.now ranges c.in-Some.behind.now) (sym c.in_ok-push.ensures.items)
      (left_behind c.args.word.now c.loop-first.ranges.items c.loop-first.rest.now c.loop-first.invariant.1 c.in-Some.first.now c.in-Some.behind.now c.in-Some.ensures.some
      c.in-Some-id_range.range c.in-Some-id_range.ensures.some),
)

pub returns-in_default-id_range-2 : goal.returns-in_default-id_range-2
returns-in_default-id_range-2 c =
    stuck_at_end c.args.word.now c.loop-first.ranges.items c.loop-first.rest.now c.loop-first.invariant.1 c.in_default.ensures.none
    c.in_default-id_range-2.ensures.none
