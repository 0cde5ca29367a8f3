use Rattle.model_undo.proofs.series_laws.resumed_pairs_go_on_alike.Goals as goal
use Rattle.model_undo.specs.SeriesExample.{pairs}
use Rattle.model_undo.proofs.Resume.{goes_on_alike}

pub returns : goal.returns
returns c = goes_on_alike pairs
