use Rattle.std.proofs.Common.{◌≡◌}
use Rattle.shown_records.specs.Probes.{set_fields}
use Rattle.shown_records.proofs.probes.probe_fields.Given as goal

abbrev pub invariant-loop-field : goal.invariant-loop-field
invariant-loop-field l = l.changes ≡ set_fields l._field
