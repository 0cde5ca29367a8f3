use Rattle.std.proofs.Common.{ℕ, subst}
use Rattle.app_look.specs.Asking.{name_count}
use Rattle.app_look.specs.SensorRecords.{EndsPart, cursor_at}
use Rattle.app_look.proofs.SensorRecords.{of_error}
use Rattle.app_look.proofs.sensors.name_of.Goals as goal

pub returns-in_err-reply-clause-ended : goal.returns-in_err-reply-clause-ended
returns-in_err-reply-clause-ended c =
    let head = c.args.head.now in
    of_error c.from_residual.result (EndsPart head.id_place (name_count c.args.size head.id_place) (cursor_at c.args.session.now c.args.walk.now) c.part_of_record.new.session)
    (
    subst (λ (count : ℕ). EndsPart head.id_place count (cursor_at c.args.session.now c.args.walk.now) c.part_of_record.new.session) c.name_count-count.ensures
    c.in_err-reply.ensures.ended
    )
