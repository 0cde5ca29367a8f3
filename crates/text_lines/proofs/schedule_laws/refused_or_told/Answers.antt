use Rattle.text_lines.specs.ScheduleText.{lines_of}
use Rattle.text_lines.proofs.TextLines.{said_at, one_first}
use Rattle.text_lines.proofs.schedule_laws.refused_or_told.Goals as goal

pub returns-clause-refused : goal.returns-clause-refused
returns-clause-refused c text events number told bad = said_at (lines_of text) events bad.place bad.line told bad.there bad.bad

pub returns-clause-first : goal.returns-clause-first
returns-clause-first c text number other one two = one_first (lines_of text) number other one two
