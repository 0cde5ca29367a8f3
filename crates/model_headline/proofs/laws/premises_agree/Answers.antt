use Rattle.model_headline.proofs.laws.premises_agree.Goals as goal
use Rattle.model_headline.proofs.Theorem as theorem

pub returns : goal.returns
returns c = theorem.premises_agree
