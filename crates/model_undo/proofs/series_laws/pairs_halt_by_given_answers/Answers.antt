use Rattle.model_undo.proofs.series_laws.pairs_halt_by_given_answers.Goals as goal
use Rattle.model_undo.specs.Giving.{HaltsByAnswers}
use Rattle.model_undo.specs.SeriesExample.{pair_family, pair_wires}
use Rattle.model_undo.proofs.SeriesExample.{pairs_are_family}
use Rattle.model_undo.proofs.TwoBuses.{over_both_buses}
use Rattle.model_undo.proofs.Giving.{halts_by_answers}

pub returns : goal.returns
returns c at = over_both_buses at (λ buses. HaltsByAnswers pair_family buses pair_wires) (λ buses lines. halts_by_answers pair_family pairs_are_family buses lines pair_wires)
