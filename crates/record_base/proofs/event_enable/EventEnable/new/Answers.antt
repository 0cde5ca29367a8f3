use Rattle.std.proofs.Common.{◌<◌}
use Rattle.record_base.specs.Sensor.EventEnable.{AreWithin}
use Rattle.record_base.specs.EventLaws.{is_event_enable}
use Rattle.record_base.proofs.event_enable.EventEnable.new.Goals as goal

pub invariant_of-result : goal.invariant_of-result
invariant_of-result c =
    let are : (c.args.supported < 4096) × AreWithin c.args.enabled.assertions c.args.supported × AreWithin c.args.enabled.deassertions c.args.supported = c.are_supported.ensures.0 c.if-not-are_supported.false in
    record { twelve = are.0; valid = is_event_enable c.args.supported c.args.messages c.args.scanning c.args.enabled are.1 are.2 }
