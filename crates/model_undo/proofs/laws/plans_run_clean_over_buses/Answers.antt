use Rattle.model_undo.proofs.laws.plans_run_clean_over_buses.Goals as goal
use Rattle.model_undo.specs.CleanBuses.{AlwaysRunsOverBuses}
use Rattle.model_undo.specs.Registers.{registers, wires}
use Rattle.model_undo.proofs.Registers.{registers_are_single, registers_are_family}
use Rattle.model_undo.proofs.TwoBuses.{delivered_over_both_buses}
use Rattle.model_undo.proofs.CleanBuses.{always_runs_over_buses}
use Rattle.model_undo.proofs.RegistersFit.{registers_fit}

pub returns-clause-runs : goal.returns-clause-runs
returns-clause-runs c at answer by_row =
    delivered_over_both_buses at (λ buses come. AlwaysRunsOverBuses registers buses come wires answer)
    (λ buses lines come lossless. always_runs_over_buses registers registers_are_family buses lines come lossless wires registers_are_single.single answer by_row)

pub returns-clause-cut : goal.returns-clause-cut
returns-clause-cut c = registers_fit
