use Rattle.model_undo.proofs.laws.phases_stand.Goals as goal
use Rattle.model_undo.specs.Headline.{AlwaysStands}
use Rattle.model_undo.specs.Registers.{registers, wires}
use Rattle.model_undo.proofs.Registers.{registers_are_family}
use Rattle.model_undo.proofs.TwoBuses.{over_both_buses}
use Rattle.model_undo.proofs.Headline.{always_stands}

pub returns : goal.returns
returns c at = over_both_buses at (λ buses. AlwaysStands registers buses wires) (λ buses lines. always_stands registers registers_are_family buses lines wires)
