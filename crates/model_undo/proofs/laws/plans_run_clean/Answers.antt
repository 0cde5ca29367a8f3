use Rattle.model_undo.proofs.laws.plans_run_clean.Goals as goal
use Rattle.model_undo.specs.Registers.{registers}
use Rattle.model_undo.proofs.Registers.{registers_are_single, registers_are_family}
use Rattle.model_undo.proofs.Clean.{always_runs_clean}

pub returns : goal.returns
returns c answer by_row = always_runs_clean registers registers_are_family registers_are_single.single answer by_row
