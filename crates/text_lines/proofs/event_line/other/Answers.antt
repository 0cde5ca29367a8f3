use Rattle.text_lines.proofs.Once.{no_bus}
use Rattle.text_lines.proofs.event_line.other.Goals as goal

pub returns-in-None : goal.returns-in-None
returns-in-None c = no_bus c.args.name.now c.args.from.now c.args.digits.now (rw c.in-None.is at c.named.ensures)
