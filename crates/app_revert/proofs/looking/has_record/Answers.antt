use Rattle.app_revert.proofs.Records.{none_more}
use Rattle.app_revert.proofs.looking.has_record.Goals as goal

pub loop-place-preserved : goal.loop-place-preserved
loop-place-preserved c =
    none_more c.args.key c.args.requests.now.members c.loop-place.place c.is_at.result c.loop-place.invariant c.if-is_at.false c.is_at.ensures
