use Rattle.model_lab.specs.ManagerSteps.{board_plans}
use Rattle.model_lab.proofs.Stepping.{runs_by}
use Rattle.model_lab.proofs.laws.runs_are_these.Goals as goal

pub returns : goal.returns
returns c = λ setup names. runs_by (board_plans names) setup
