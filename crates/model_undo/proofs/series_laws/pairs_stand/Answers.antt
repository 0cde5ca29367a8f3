use Rattle.model_undo.proofs.series_laws.pairs_stand.Goals as goal
use Rattle.model_undo.specs.SeriesExample.{pair_family}
use Rattle.model_undo.proofs.SeriesExample.{pairs_are_family}
use Rattle.model_undo.proofs.RecordsRun.{records_stand}

pub returns : goal.returns
returns c = records_stand pair_family pairs_are_family
