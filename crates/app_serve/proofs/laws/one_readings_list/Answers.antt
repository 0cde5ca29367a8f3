use Rattle.text_lines.specs.ScheduleText.{lines_of}
use Rattle.app_serve.proofs.ReadingsLists.{one_told, told_or_bad, one_first}
use Rattle.app_serve.proofs.laws.one_readings_list.Goals as goal

pub returns-clause-same : goal.returns-clause-same
returns-clause-same c text = one_told (lines_of text)

pub returns-clause-apart : goal.returns-clause-apart
returns-clause-apart c text = told_or_bad (lines_of text)

pub returns-clause-first : goal.returns-clause-first
returns-clause-first c text = one_first (lines_of text)
