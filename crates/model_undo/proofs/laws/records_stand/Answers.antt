use Rattle.model_undo.proofs.laws.records_stand.Goals as goal
use Rattle.model_undo.specs.Registers.{registers}
use Rattle.model_undo.proofs.Registers.{registers_are_family}
use Rattle.model_undo.proofs.RecordsRun.{records_stand}

pub returns : goal.returns
returns c = records_stand registers registers_are_family
