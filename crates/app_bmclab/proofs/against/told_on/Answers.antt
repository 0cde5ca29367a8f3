use Rattle.std.proofs.Common.{refl}
use Rattle.app_bmclab.proofs.OnBoard.{board_read}
use Rattle.app_bmclab.proofs.against.told_on.Goals as goal

pub returns-in-Ok-clause-told : goal.returns-in-Ok-clause-told
returns-in-Ok-clause-told g c = (c.in_ok-file.file, board_read c.args.board.now c.in_ok-file.file _ refl c.in_ok-file.ensures, c.in-Ok.ensures)
