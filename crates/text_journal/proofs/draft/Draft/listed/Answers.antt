use Rattle.std.proofs.Common.{codes}
use Rattle.text_journal.specs.JournalText.{kept_so_far}
use Rattle.text_journal.proofs.FirstLines.{none_listed, no_names_there}
use Rattle.text_journal.proofs.draft.Draft.listed.Goals as goal

pub returns-in-Ok-None : goal.returns-in-Ok-None
returns-in-Ok-None c = none_listed c.args.text.now (kept_so_far c.args.self.now.contents) c.in_default.ensures.none (no_names_there (codes "listed ") c.args.text.now c.in-Ok-None.field-0 c.in-Ok-None.field-0-is c.in-Ok-None.ensures)
