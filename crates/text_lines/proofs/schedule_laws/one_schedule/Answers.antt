use Rattle.text_lines.specs.ScheduleText.{lines_of}
use Rattle.text_lines.specs.Schedule.{spoken}
use Rattle.text_lines.proofs.TextLines.{one_list}
use Rattle.text_lines.proofs.schedule_laws.one_schedule.Goals as goal

pub returns : goal.returns
returns c text events others told also = one_list (spoken (lines_of text)) events others told also
