use Rattle.model_headline.proofs.Steps.{requests_followed}
use Rattle.model_headline.proofs.laws.requests_are_followed.Goals as goal

pub returns : goal.returns
returns c = requests_followed
