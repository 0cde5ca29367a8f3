use Rattle.undo_core.proofs.Exchange.{requests_are_heard}
use Rattle.undo_core.proofs.laws.requests_are_heard.Goals as goal

pub returns : goal.returns
returns c = requests_are_heard
