use Rattle.model_headline.proofs.Restarts.{restart_goes}
use Rattle.model_headline.proofs.laws.restarts_are_followed.Goals as goal

pub returns : goal.returns
returns c setup names plan start lab on tied = restart_goes setup names lab on tied
