use Rattle.std.proofs.Common.{Err, subst}
use Rattle.app_serve.specs.declared.inputs.InputFault.{InputFault}
use Rattle.app_serve.specs.Run.{AreInputs}
use Rattle.app_serve.proofs.inputs.refusal.Goals as goal

pub returns-in-Board : goal.returns-in-Board
returns-in-Board c = λ words board given reads.
    c.board_fault.ensures words board given (subst (λ (why : InputFault). AreInputs board given (Err why)) c.in-Board.is reads)

pub returns-in-Readings : goal.returns-in-Readings
returns-in-Readings c = λ words board given reads.
    c.readings_refusal.ensures words board given (subst (λ (why : InputFault). AreInputs board given (Err why)) c.in-Readings.is reads)
