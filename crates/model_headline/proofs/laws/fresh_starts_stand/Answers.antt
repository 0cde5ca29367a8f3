use Rattle.model_headline.proofs.laws.fresh_starts_stand.Goals as goal
use Rattle.model_headline.proofs.Fresh.{fresh_starts_stand, greeted_is_fresh}

pub returns-clause-stand : goal.returns-clause-stand
returns-clause-stand c = fresh_starts_stand

pub returns-clause-greeted : goal.returns-clause-greeted
returns-clause-greeted c = greeted_is_fresh
