use Rattle.model_lab.specs.ManagerSteps.{board_plans}
use Rattle.model_lab.proofs.ManagerEvents.{replies_are_brought}
use Rattle.model_lab.proofs.laws.replies_are_brought.Goals as goal

pub returns : goal.returns
returns c = λ names. replies_are_brought (board_plans names)
