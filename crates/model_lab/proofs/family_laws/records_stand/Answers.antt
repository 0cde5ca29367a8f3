use Rattle.model_lab.proofs.family_laws.records_stand.Goals as goal
use Rattle.model_undo.proofs.RecordsRun.{records_stand}
use Rattle.model_lab.specs.Family.{family}
use Rattle.model_lab.proofs.IsFamily.{is_family}

pub returns : goal.returns
returns c setup at = records_stand (family setup at) (is_family setup at)
