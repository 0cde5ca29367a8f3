use Rattle.model_headline.proofs.Running.{has_history}
use Rattle.model_headline.proofs.histories.runs_are_histories.Goals as goal

pub returns : goal.returns
returns c = has_history
