use Rattle.std.proofs.Common.{◌&&◌, ◌<◌, ℕ, Bool, not, sym, ◌∙◌, ap, subst}
use Rattle.lab_play.specs.Watched.{waits_long}
use Rattle.lab_play.proofs.Offers.{no_part_keeps, part_keeps}
use Rattle.lab_play.proofs.schedule_drawing.may_join_late.Goals as goal

pub returns-in_default : goal.returns-in_default
returns-in_default c never file x shows opens =
    no_part_keeps file c.args.lab.now x shows c.args.watch.now opens c.args.event.now (sym (c.part.ensures file x shows) ∙ c.in_default.is)

pub returns-then-not-part : goal.returns-then-not-part
returns-then-not-part c never file x shows opens =
    let part = c.in-Some.part in
    let waits = waits_long c.args.watch.now.opened part.tag c.begun.result in
    part_keeps file c.args.lab.now x shows c.args.watch.now opens c.args.event.now part c.begun.result (subst (λ (n : ℕ). n < 8) c.number.ensures.value c.number.ensures.below)
    (sym (c.part.ensures file x shows) ∙ c.in-Some.is) (c.begun.ensures file x shows)
    (ap (λ (b : Bool). not b && waits) c.if-not-part.true ∙ sym c.waits_long-waits.ensures ∙ never)

pub returns-else-not-part : goal.returns-else-not-part
returns-else-not-part c never file x shows opens =
    let part = c.in-Some.part in
    let waits = waits_long c.args.watch.now.opened part.tag c.begun.result in
    part_keeps file c.args.lab.now x shows c.args.watch.now opens c.args.event.now part c.begun.result (subst (λ (n : ℕ). n < 8) c.number.ensures.value c.number.ensures.below)
    (sym (c.part.ensures file x shows) ∙ c.in-Some.is) (c.begun.ensures file x shows)
    (ap (λ (b : Bool). b && waits) never)
