use Rattle.std.proofs.Common.{arith}
use Rattle.std.proofs.Math.Bool.{or-false}
use Rattle.std.proofs.lemmas.Grind.{common_steps}
use Rattle.text_check.proofs.notes.tell_board.Goals as goal

pub returns-else-device : goal.returns-else-device
returns-else-device c = grind (arith, common_steps, or-false)
