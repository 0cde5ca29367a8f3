use Rattle.model_undo.proofs.series_laws.pairs_are_undone_for_good.Goals as goal
use Rattle.model_undo.specs.Headline.{UndoneForGood}
use Rattle.model_undo.specs.SeriesExample.{pair_family, pair_wires}
use Rattle.model_undo.proofs.SeriesExample.{pairs_are_family}
use Rattle.model_undo.proofs.TwoBuses.{over_both_buses}
use Rattle.model_undo.proofs.Headline.{undone_for_good}

pub returns : goal.returns
returns c at = over_both_buses at (λ buses. UndoneForGood pair_family buses pair_wires) (λ buses lines. undone_for_good pair_family pairs_are_family buses lines pair_wires)
