use Rattle.std.proofs.Common.{ℕ, List, ◌≤◌, sym, subst}
use Rattle.text_lines.specs.declared.event.Event.{Event}
use Rattle.undo_plans.specs.Steps.{most_steps}
use Rattle.lab_play.specs.declared.schedule_making.Links.TheVariants as links
use Rattle.lab_play.specs.Made.{IsMade}
use Rattle.lab_play.proofs.clean_schedule.clean_events.Goals as goal

pub returns-in-Ok : goal.returns-in-Ok
returns-in-Ok c =
    let plan = c.args.plan in
    subst (λ (events : List Event). IsMade c.args.file plan.steps plan.retries (record { links = links.Clean; undo = c.args.undo }) events) (sym c.into_events-events.ensures)
    (c.in-Ok.ensures c.args.file plan.steps plan.retries (subst (λ (n : ℕ). n ≤ most_steps) c.len-steps.ensures.value c.len-steps.ensures.few) c.in_ok-drawing.ensures.drawn)
