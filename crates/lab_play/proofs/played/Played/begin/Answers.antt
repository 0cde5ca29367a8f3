use Rattle.std.proofs.Common.{ℕ, ◌≤◌, subst}
use Rattle.undo_plans.specs.Steps.{most_steps}
use Rattle.lab_play.proofs.played.Played.begin.Goals as goal

pub returns-in-Ok-clause-begins : goal.returns-in-Ok-clause-begins
returns-in-Ok-clause-begins c = record {
  start = c.in-Ok.ensures.pairs;
  once = c.in-Ok.ensures.differ;
  shows = c.in_ok-lab.ensures.shows;
  few = subst (λ (n : ℕ). n ≤ most_steps) c.len-steps.ensures.value c.len-steps.ensures.few;
  watches = λ tag below. c.new-watch.ensures.opened tag below;
}
