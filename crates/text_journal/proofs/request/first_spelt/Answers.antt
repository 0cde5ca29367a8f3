use Rattle.text_journal.proofs.FirstLines.{either_bus}
use Rattle.text_journal.proofs.request.first_spelt.Goals as goal

pub returns-in-None : goal.returns-in-None
returns-in-None c = either_bus c.args.text.now c.first_on-in-None.result (rw c.in-None.is at c.in_ok-found.ensures) c.first_on-in-None.ensures
