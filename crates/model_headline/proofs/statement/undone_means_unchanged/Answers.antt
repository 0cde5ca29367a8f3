use Rattle.model_headline.proofs.statement.undone_means_unchanged.Goals as goal
use Rattle.model_headline.proofs.Claim.{claim}
use Rattle.model_headline.proofs.Controller.{is_controller}

pub returns-clause-controller : goal.returns-clause-controller
returns-clause-controller c = is_controller

pub returns-clause-claim : goal.returns-clause-claim
returns-clause-claim c = claim
