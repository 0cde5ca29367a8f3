use Rattle.model_headline.proofs.Steps.{others_followed}
use Rattle.model_headline.proofs.laws.others_are_followed.Goals as goal

pub returns : goal.returns
returns c = others_followed
