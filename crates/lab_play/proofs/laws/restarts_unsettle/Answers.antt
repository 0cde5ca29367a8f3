use Rattle.lab_play.proofs.RemadePhase.{restarts_unsettle}
use Rattle.lab_play.proofs.laws.restarts_unsettle.Goals as goal

pub returns : goal.returns
returns c = restarts_unsettle
