use Rattle.model_lab.proofs.family_laws.phases_stand.Goals as goal
use Rattle.model_undo.specs.Headline.{AlwaysStands}
use Rattle.model_undo.proofs.TwoBuses.{over_both_buses}
use Rattle.model_undo.proofs.Headline.{always_stands}
use Rattle.model_lab.specs.Family.{family}
use Rattle.model_lab.specs.ManagerWires.{wires}
use Rattle.model_lab.proofs.IsFamily.{is_family}

pub returns : goal.returns
returns c setup at = over_both_buses at (λ buses. AlwaysStands (family setup at) buses (wires at)) (λ buses lines. always_stands (family setup at) (is_family setup at) buses lines (wires at))
