use Rattle.std.proofs.Common.{sym, ◌∙◌}
use Rattle.lab_run.proofs.Deliveries.{full_room, free_room}
use Rattle.lab_run.proofs.frames.Frames.room_fault.Goals as goal

pub returns-then-is_full : goal.returns-then-is_full
returns-then-is_full c names marks x shows = full_room names c.args.self.now marks x shows (sym c.is_full.ensures ∙ c.if-is_full.true)

pub returns-else-is_full : goal.returns-else-is_full
returns-else-is_full c names marks x shows = free_room names c.args.self.now marks x shows (sym c.is_full.ensures ∙ c.if-is_full.false)
