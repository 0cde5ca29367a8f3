use Rattle.model_lab.specs.ManagerSteps.{board_plans}
use Rattle.model_lab.proofs.Breaches.{faults_are_breaches}
use Rattle.model_lab.proofs.laws.faults_are_breaches.Goals as goal

pub returns : goal.returns
returns c = λ names. faults_are_breaches (board_plans names)
