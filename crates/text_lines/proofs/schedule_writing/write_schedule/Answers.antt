use Rattle.std.proofs.Common.{string_bytes}
use Rattle.text_lines.proofs.Written.{written_all}
use Rattle.text_lines.proofs.schedule_writing.write_schedule.Goals as goal

pub returns-clause-said : goal.returns-clause-said
returns-clause-said c = (written_all c.args.events.now c.loop-event.event-index (string_bytes c.loop-event.text) c.loop-event-test.false c.loop-event.invariant).1
