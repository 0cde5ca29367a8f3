use Rattle.model_headline.proofs.laws.restarts_leave_everything_standing.Goals as goal
use Rattle.model_headline.proofs.Restarted.{stands_over_restarts}

pub returns : goal.returns
returns c = stands_over_restarts
