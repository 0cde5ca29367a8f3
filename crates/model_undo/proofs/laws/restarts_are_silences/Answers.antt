use Rattle.model_undo.proofs.laws.restarts_are_silences.Goals as goal
use Rattle.model_undo.specs.Silence.{RestartsAreSilences}
use Rattle.model_undo.specs.Registers.{registers, wires}
use Rattle.model_undo.proofs.TwoBuses.{however_sent}
use Rattle.model_undo.proofs.Silence.{restarts_are_silences}

pub returns : goal.returns
returns c at = however_sent at (λ buses. RestartsAreSilences registers buses wires) (λ buses. restarts_are_silences registers buses wires)
