use Rattle.model_undo.proofs.series_laws.pair_phases_stand.Goals as goal
use Rattle.model_undo.specs.Headline.{AlwaysStands}
use Rattle.model_undo.specs.SeriesExample.{pair_family, pair_wires}
use Rattle.model_undo.proofs.SeriesExample.{pairs_are_family}
use Rattle.model_undo.proofs.TwoBuses.{over_both_buses}
use Rattle.model_undo.proofs.Headline.{always_stands}

pub returns : goal.returns
returns c at = over_both_buses at (λ buses. AlwaysStands pair_family buses pair_wires) (λ buses lines. always_stands pair_family pairs_are_family buses lines pair_wires)
