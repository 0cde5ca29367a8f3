use Rattle.app_look.proofs.Asks.{asks_both}
use Rattle.app_look.proofs.reading.read_names.Goals as goal

pub returns-in_err-read_attributes-clause-tables : goal.returns-in_err-read_attributes-clause-tables
returns-in_err-read_attributes-clause-tables c =
    asks_both c.args.session.now c.read_sensors.new.session c.read_attributes.new.session c.read_sensors.ensures.tables c.read_attributes.ensures.tables

pub returns-clause-tables : goal.returns-clause-tables
returns-clause-tables c =
    asks_both c.args.session.now c.read_sensors.new.session c.read_attributes.new.session c.read_sensors.ensures.tables c.read_attributes.ensures.tables

pub returns-clause-names : goal.returns-clause-names
returns-clause-names c = record {
  wanted = c.in_ok-names.names;
  are_wanted = c.in_ok-names.ensures;
  mid = c.read_sensors.new.session;
  read = c.read_sensors.new.names;
  sensors = c.read_sensors.ensures.names;
  attributes = c.in_ok-read_attributes.ensures.names;
}
