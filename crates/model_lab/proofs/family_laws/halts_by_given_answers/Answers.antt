use Rattle.model_lab.proofs.family_laws.halts_by_given_answers.Goals as goal
use Rattle.model_undo.specs.Giving.{HaltsByAnswers}
use Rattle.model_undo.proofs.TwoBuses.{over_both_buses}
use Rattle.model_undo.proofs.Giving.{halts_by_answers}
use Rattle.model_lab.specs.Family.{family}
use Rattle.model_lab.specs.ManagerWires.{wires}
use Rattle.model_lab.proofs.IsFamily.{is_family}

pub returns : goal.returns
returns c setup at = over_both_buses at (λ buses. HaltsByAnswers (family setup at) buses (wires at)) (λ buses lines. halts_by_answers (family setup at) (is_family setup at) buses lines (wires at))
