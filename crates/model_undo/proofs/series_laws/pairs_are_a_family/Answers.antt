use Rattle.model_undo.proofs.series_laws.pairs_are_a_family.Goals as goal
use Rattle.model_undo.proofs.SeriesExample.{pairs_are_family}

pub returns : goal.returns
returns c = pairs_are_family
