use Rattle.model_lab.proofs.Example.{shows_faults}
use Rattle.model_lab.proofs.examples.faults_are_shown.Goals as goal

pub returns : goal.returns
returns c = shows_faults
