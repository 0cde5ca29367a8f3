use Rattle.model_undo.proofs.series_laws.pair_restarts_are_silences.Goals as goal
use Rattle.model_undo.specs.Silence.{RestartsAreSilences}
use Rattle.model_undo.specs.SeriesExample.{pair_family, pair_wires}
use Rattle.model_undo.proofs.TwoBuses.{however_sent}
use Rattle.model_undo.proofs.Silence.{restarts_are_silences}

pub returns : goal.returns
returns c at = however_sent at (λ buses. RestartsAreSilences pair_family buses pair_wires) (λ buses. restarts_are_silences pair_family buses pair_wires)
