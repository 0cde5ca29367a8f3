use Rattle.model_lab.proofs.family_laws.plans_run_through_over_buses.Goals as goal
use Rattle.bmc_board.proofs.OneAnswer.{has_answer}
use Rattle.model_undo.specs.CleanBuses.{AlwaysRunsThroughBuses}
use Rattle.model_undo.proofs.TwoBuses.{delivered_over_both_buses}
use Rattle.model_undo.proofs.CleanBuses.{always_runs_through_buses}
use Rattle.model_lab.specs.Family.{family, answer}
use Rattle.model_lab.specs.ManagerWires.{wires}
use Rattle.model_lab.proofs.IsFamily.{is_family}
use Rattle.model_lab.proofs.Finite.{are_finite}

pub returns : goal.returns
returns c setup at =
    delivered_over_both_buses at (λ buses come. AlwaysRunsThroughBuses (family setup at) buses come (wires at) (answer setup))
    (λ buses lines come lossless. always_runs_through_buses (family setup at) (is_family setup at) buses lines come lossless (wires at) (are_finite at) (answer setup)
    (λ board asked. has_answer setup board asked))
