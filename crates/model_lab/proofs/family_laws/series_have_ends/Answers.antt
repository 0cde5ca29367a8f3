use Rattle.model_lab.proofs.family_laws.series_have_ends.Goals as goal
use Rattle.model_lab.proofs.Finite.{are_finite}

pub returns : goal.returns
returns c = are_finite
