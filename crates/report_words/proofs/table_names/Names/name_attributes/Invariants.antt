use Rattle.std.proofs.Common.{◌≡◌}
use Rattle.report_words.proofs.Naming.{AreNamedTo}
use Rattle.report_words.proofs.table_names.Names.name_attributes.Given as goal

-- the attributes before were named
abbrev pub invariant-loop-place : goal.invariant-loop-place
invariant-loop-place l = record {
  named : AreNamedTo l.attributes l.strings l.place l.fn.self.attributes.items l.self.attributes.items;
  sensors : l.self.sensors ≡ l.fn.self.sensors;
}
