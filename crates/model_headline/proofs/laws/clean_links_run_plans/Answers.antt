use Rattle.model_headline.proofs.laws.clean_links_run_plans.Goals as goal
use Rattle.model_headline.proofs.CleanLink.{runs_on_clean_link}

pub returns : goal.returns
returns c = runs_on_clean_link
