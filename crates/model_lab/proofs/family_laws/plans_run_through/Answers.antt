use Rattle.model_lab.proofs.family_laws.plans_run_through.Goals as goal
use Rattle.bmc_board.proofs.OneAnswer.{has_answer}
use Rattle.model_undo.proofs.CleanSeries.{always_runs_through}
use Rattle.model_lab.specs.Family.{family, answer}
use Rattle.model_lab.proofs.IsFamily.{is_family}
use Rattle.model_lab.proofs.Finite.{are_finite}

pub returns-clause-answers : goal.returns-clause-answers
returns-clause-answers c setup at = λ board asked. has_answer setup board asked

pub returns-clause-through : goal.returns-clause-through
returns-clause-through c setup at = always_runs_through (family setup at) (is_family setup at) (are_finite at) (answer setup) (λ board asked. has_answer setup board asked)
