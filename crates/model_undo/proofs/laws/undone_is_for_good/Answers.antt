use Rattle.model_undo.proofs.laws.undone_is_for_good.Goals as goal
use Rattle.model_undo.specs.Headline.{UndoneForGood}
use Rattle.model_undo.specs.Registers.{registers, wires}
use Rattle.model_undo.proofs.Registers.{registers_are_family}
use Rattle.model_undo.proofs.TwoBuses.{over_both_buses}
use Rattle.model_undo.proofs.Headline.{undone_for_good}

pub returns : goal.returns
returns c at = over_both_buses at (λ buses. UndoneForGood registers buses wires) (λ buses lines. undone_for_good registers registers_are_family buses lines wires)
