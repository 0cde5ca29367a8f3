use Rattle.bmc_board.proofs.Undone.{is_a_reply, is_undone}
use Rattle.bmc_board.proofs.laws.undo_law.Goals as goal

pub returns-clause-reply : goal.returns-clause-reply
returns-clause-reply c = is_a_reply

pub returns-clause-undone : goal.returns-clause-undone
returns-clause-undone c = is_undone
