use Rattle.model_undo.proofs.series_laws.plans_run_through_over_buses.Goals as goal
use Rattle.model_undo.specs.CleanBuses.{AlwaysRunsThroughBuses}
use Rattle.model_undo.specs.SeriesExample.{pair_family, pair_wires}
use Rattle.model_undo.proofs.SeriesExample.{pairs_are_family, pairs_are_finite}
use Rattle.model_undo.proofs.TwoBuses.{delivered_over_both_buses}
use Rattle.model_undo.proofs.CleanBuses.{always_runs_through_buses}

pub returns : goal.returns
returns c at answer by_row =
    delivered_over_both_buses at (λ buses come. AlwaysRunsThroughBuses pair_family buses come pair_wires answer)
    (λ buses lines come lossless. always_runs_through_buses pair_family pairs_are_family buses lines come lossless pair_wires pairs_are_finite answer by_row)
