use Rattle.std.proofs.Common.{codes}
use Rattle.text_journal.proofs.FirstLines.{no_names_there}
use Rattle.text_journal.proofs.draft.Draft.names.Goals as goal

pub returns-in-Ok-None : goal.returns-in-Ok-None
returns-in-Ok-None c more next b = no_names_there (codes "names ") c.args.text.now c.in-Ok-None.field-0 c.in-Ok-None.field-0-is c.in-Ok-None.ensures more b.2.0 (b.0, b.1, b.2.1)
