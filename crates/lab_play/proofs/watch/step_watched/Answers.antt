use Rattle.std.proofs.Common.{sym, ◌∙◌, ap}
use Rattle.lab_play.specs.Watched.{took_by}
use Rattle.lab_run.proofs.Coming.{done_is}
use Rattle.lab_play.proofs.Watches.{no_packet, a_packet}
use Rattle.lab_play.proofs.watch.step_watched.Goals as goal

pub returns-in_default-clause-watched : goal.returns-in_default-clause-watched
returns-in_default-clause-watched c file x shows opens =
    no_packet file c.args.lab.now x shows c.args.watch.now opens c.args.event.now c.args.place (sym (c.part-part.ensures file x shows) ∙ c.in_default.is)

pub returns-in-Some-clause-watched : goal.returns-in-Some-clause-watched
returns-in-Some-clause-watched c file x shows opens =
    let stepped = c.in_ok-step.ensures.steps file x shows in
    a_packet file c.args.lab.now x shows c.args.watch.now opens c.args.event.now c.args.place c.in-Some.part c.begun-begun.result c.took.result c.hears.new.self c.hears.ensures.low
    (sym (c.part-part.ensures file x shows) ∙ c.in-Some.is) (c.begun-begun.ensures file x shows)
    (c.took.ensures ∙ ap took_by (c.done.ensures ∙ done_is file c.args.lab.now c.step.new.self x shows c.args.event.now stepped.0 c.in_ok-step.ensures.done))
    c.hears.ensures.opened c.hears.ensures.broken
