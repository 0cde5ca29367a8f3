use Rattle.model_undo.proofs.series_laws.pairs_unsettled_only_by_quiet.Goals as goal
use Rattle.model_undo.specs.SeriesExample.{pairs}
use Rattle.model_undo.proofs.Unsettled.{unsettled_by_quiet}

pub returns : goal.returns
returns c = unsettled_by_quiet pairs
