use Rattle.std.proofs.Common.{◌∙◌, sym}
use Rattle.report_words.proofs.Wanted.{sensor_added}
use Rattle.report_words.proofs.table_names.Names.want_sensor.Goals as goal

pub returns-clause-sensors : goal.returns-clause-sensors
returns-clause-sensors c =
    c.in_ok-push.ensures.items
    ∙ sym (sensor_added c.args.sensor c.in-Some.number c.args.self.now.sensors.items c.in-Some.is (sym c.has_sensor.ensures ∙ c.if-has_sensor.false))
