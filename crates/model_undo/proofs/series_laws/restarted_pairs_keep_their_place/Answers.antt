use Rattle.model_undo.proofs.series_laws.restarted_pairs_keep_their_place.Goals as goal
use Rattle.model_undo.specs.SeriesExample.{pairs}
use Rattle.model_undo.proofs.Restart.{is_kept}

pub returns : goal.returns
returns c = is_kept pairs
