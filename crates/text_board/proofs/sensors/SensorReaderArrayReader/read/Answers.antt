use Rattle.std.proofs.Common.{inr}
use Rattle.std.proofs.lemmas.Result.{err_from_is_err_and}
use Rattle.text_board.proofs.sensors.SensorReaderArrayReader.read.Goals as goal

pub returns-in_err-item-clause-err : goal.returns-in_err-item-clause-err
returns-in_err-item-clause-err c =
    let p = err_from_is_err_and c.from_residual.result c.from_residual.ensures.1 in
    rw (p.1, p.2) (inr c.in_err-item.ensures.err)

pub returns-clause-sound : goal.returns-clause-sound
returns-clause-sound c = c.in_ok-item.ensures.sound
