use Rattle.report_words.proofs.Wanted.{none_known}
use Rattle.report_words.proofs.table_names.Names.new.Goals as goal

pub returns-clause-none : goal.returns-clause-none
returns-clause-none c =
    none_known (record { sensors = c.new-sensors.result; attributes = c.new-attributes.result }) c.new-sensors.ensures.items c.new-attributes.ensures.items
