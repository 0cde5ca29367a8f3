use Rattle.model_headline.proofs.statement.plays_keep_their_promise.Goals as goal
use Rattle.model_headline.proofs.Promised.{keeps_promise}
use Rattle.model_headline.proofs.Stated.{plays_are_stated}

pub returns-clause-promise : goal.returns-clause-promise
returns-clause-promise c = keeps_promise

pub returns-clause-stated : goal.returns-clause-stated
returns-clause-stated c = plays_are_stated
