use Rattle.model_headline.proofs.Steps.{calls_followed}
use Rattle.model_headline.proofs.laws.calls_are_followed.Goals as goal

pub returns : goal.returns
returns c = calls_followed
