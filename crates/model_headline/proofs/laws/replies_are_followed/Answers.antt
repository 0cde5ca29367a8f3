use Rattle.model_headline.proofs.Steps.{replies_followed}
use Rattle.model_headline.proofs.laws.replies_are_followed.Goals as goal

pub returns : goal.returns
returns c = replies_followed
