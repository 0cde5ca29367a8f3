use Rattle.model_lab.proofs.family_laws.undone_is_for_good.Goals as goal
use Rattle.model_undo.specs.Headline.{UndoneForGood}
use Rattle.model_undo.proofs.TwoBuses.{over_both_buses}
use Rattle.model_undo.proofs.Headline.{undone_for_good}
use Rattle.model_lab.specs.Family.{family}
use Rattle.model_lab.specs.ManagerWires.{wires}
use Rattle.model_lab.proofs.IsFamily.{is_family}

pub returns : goal.returns
returns c setup at = over_both_buses at (λ buses. UndoneForGood (family setup at) buses (wires at)) (λ buses lines. undone_for_good (family setup at) (is_family setup at) buses lines (wires at))
