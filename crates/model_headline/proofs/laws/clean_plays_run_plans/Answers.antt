use Rattle.model_headline.proofs.laws.clean_plays_run_plans.Goals as goal
use Rattle.model_headline.proofs.CleanPlays.{plays_run_clean}

pub returns : goal.returns
returns c = plays_run_clean
