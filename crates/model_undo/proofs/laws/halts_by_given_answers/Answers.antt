use Rattle.model_undo.proofs.laws.halts_by_given_answers.Goals as goal
use Rattle.model_undo.specs.Giving.{HaltsByAnswers}
use Rattle.model_undo.specs.Registers.{registers, wires}
use Rattle.model_undo.proofs.Registers.{registers_are_family}
use Rattle.model_undo.proofs.TwoBuses.{over_both_buses}
use Rattle.model_undo.proofs.Giving.{halts_by_answers}

pub returns : goal.returns
returns c at = over_both_buses at (λ buses. HaltsByAnswers registers buses wires) (λ buses lines. halts_by_answers registers registers_are_family buses lines wires)
