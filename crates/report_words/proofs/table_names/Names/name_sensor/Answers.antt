use Rattle.std.proofs.Common.{◌∙◌, ℕ, Option, true, sym, ap}
use Rattle.report_words.specs.TableNames.{read_at}
use Rattle.report_words.proofs.table_names.Names.name_sensor.Goals as goal

pub returns-in-Some-clause-sensors : goal.returns-in-Some-clause-sensors
returns-in-Some-clause-sensors c =
    ap (λ (p : Option ℕ). read_at p (record { number = c.args.number; read = true; name = c.args.name }) c.args.self.now.sensors.items) (sym c.in-Some.is ∙ c.place_of.ensures.value)

pub returns-in_default-clause-sensors : goal.returns-in_default-clause-sensors
returns-in_default-clause-sensors c =
    ap (λ (p : Option ℕ). read_at p (record { number = c.args.number; read = true; name = c.args.name }) c.args.self.now.sensors.items) (sym c.in_default.is ∙ c.place_of.ensures.value)
