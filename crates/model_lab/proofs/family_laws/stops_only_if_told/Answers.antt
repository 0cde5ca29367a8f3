use Rattle.model_lab.proofs.family_laws.stops_only_if_told.Goals as goal
use Rattle.model_undo.specs.Headline.{StopsOnlyIfTold}
use Rattle.model_undo.proofs.TwoBuses.{over_both_buses}
use Rattle.model_undo.proofs.Headline.{stops_only_if_told}
use Rattle.model_lab.specs.Family.{family}
use Rattle.model_lab.specs.ManagerWires.{wires}
use Rattle.model_lab.proofs.IsFamily.{is_family}

pub returns : goal.returns
returns c setup at = over_both_buses at (λ buses. StopsOnlyIfTold (family setup at) buses (wires at)) (λ buses lines. stops_only_if_told (family setup at) (is_family setup at) buses lines (wires at))
