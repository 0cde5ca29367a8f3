use Rattle.model_lab.proofs.family_laws.records_are_a_family.Goals as goal
use Rattle.model_lab.proofs.IsFamily.{is_family}

pub returns : goal.returns
returns c = is_family
