use Rattle.undo_core.proofs.Exchange.{replies_are_taken}
use Rattle.undo_core.proofs.laws.replies_are_taken.Goals as goal

pub returns : goal.returns
returns c = replies_are_taken
