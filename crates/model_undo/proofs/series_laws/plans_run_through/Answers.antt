use Rattle.model_undo.proofs.series_laws.plans_run_through.Goals as goal
use Rattle.model_undo.specs.SeriesExample.{pair_family}
use Rattle.model_undo.proofs.SeriesExample.{pairs_are_family, pairs_are_finite}
use Rattle.model_undo.proofs.CleanSeries.{always_runs_through}

pub returns : goal.returns
returns c answer by_row = always_runs_through pair_family pairs_are_family pairs_are_finite answer by_row
