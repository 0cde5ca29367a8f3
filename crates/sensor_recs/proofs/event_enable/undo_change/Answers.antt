use Rattle.std.proofs.Common.{sym, ◌∙◌, ap}
use Rattle.record_base.specs.declared.event_enable.EventChange.{EventChange}
use Rattle.record_base.specs.declared.event_enable.EventMasks.{EventMasks}
use Rattle.record_base.specs.declared.event_enable.EventChange.TheVariants.{Disable}
use Rattle.sensor_recs.specs.EventEnable.{undo_change}
use Rattle.sensor_recs.proofs.event_enable.undo_change.Goals as goal

pub returns-in-Enable : goal.returns-in-Enable
returns-in-Enable c =
    ap (λ (masks : EventMasks). Disable masks) c.without.ensures ∙ sym (ap (λ (change : EventChange). undo_change change c.args.old) c.in-Enable.is)
