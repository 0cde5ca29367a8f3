use Rattle.model_headline.proofs.laws.undo_takes_everything_back.Goals as goal
use Rattle.model_headline.proofs.Theorem.{headline}

pub returns : goal.returns
returns c = headline
