use Rattle.model_headline.proofs.laws.taken_schedules_are_undone.Goals as goal
use Rattle.model_headline.proofs.Theorem as theorem

pub returns : goal.returns
returns c = theorem.headline_own
