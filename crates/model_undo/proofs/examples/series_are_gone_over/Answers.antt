use Rattle.model_undo.proofs.examples.series_are_gone_over.Goals as goal
use Rattle.model_undo.proofs.SeriesExample.{goes_over}

pub returns : goal.returns
returns c = goes_over
