use Rattle.model_undo.proofs.series_laws.pairs_stop_only_if_told.Goals as goal
use Rattle.model_undo.specs.Headline.{StopsOnlyIfTold}
use Rattle.model_undo.specs.SeriesExample.{pair_family, pair_wires}
use Rattle.model_undo.proofs.SeriesExample.{pairs_are_family}
use Rattle.model_undo.proofs.TwoBuses.{over_both_buses}
use Rattle.model_undo.proofs.Headline.{stops_only_if_told}

pub returns : goal.returns
returns c at = over_both_buses at (λ buses. StopsOnlyIfTold pair_family buses pair_wires) (λ buses lines. stops_only_if_told pair_family pairs_are_family buses lines pair_wires)
