use Rattle.model_lab.proofs.family_laws.restarts_are_silences.Goals as goal
use Rattle.model_undo.specs.Silence.{RestartsAreSilences}
use Rattle.model_undo.proofs.TwoBuses.{however_sent}
use Rattle.model_undo.proofs.Silence.{restarts_are_silences}
use Rattle.model_lab.specs.Family.{family}
use Rattle.model_lab.specs.ManagerWires.{wires}

pub returns : goal.returns
returns c setup at = however_sent at (λ buses. RestartsAreSilences (family setup at) buses (wires at)) (λ buses. restarts_are_silences (family setup at) buses (wires at))
