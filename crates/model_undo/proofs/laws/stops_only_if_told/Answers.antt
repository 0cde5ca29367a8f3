use Rattle.model_undo.proofs.laws.stops_only_if_told.Goals as goal
use Rattle.model_undo.specs.Headline.{StopsOnlyIfTold}
use Rattle.model_undo.specs.Registers.{registers, wires}
use Rattle.model_undo.proofs.Registers.{registers_are_family}
use Rattle.model_undo.proofs.TwoBuses.{over_both_buses}
use Rattle.model_undo.proofs.Headline.{stops_only_if_told}

pub returns : goal.returns
returns c at = over_both_buses at (λ buses. StopsOnlyIfTold registers buses wires) (λ buses lines. stops_only_if_told registers registers_are_family buses lines wires)
