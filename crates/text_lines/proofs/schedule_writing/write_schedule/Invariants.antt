use Rattle.std.proofs.Common.{take, string_bytes}
use Rattle.text_lines.proofs.Written.{IsWritten}
use Rattle.text_lines.proofs.schedule_writing.write_schedule.Given as goal

abbrev pub invariant-loop-event : goal.invariant-loop-event
invariant-loop-event l = IsWritten (take l.event-index l.events) (string_bytes l.text)
