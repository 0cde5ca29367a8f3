use Rattle.std.proofs.Common.{◌≡◌, ◌+◌, ◌*◌, ◌++◌, length, drop}
use Rattle.effecter_recs.specs.FieldChanges.{shown_fields}
use Rattle.effecter_recs.proofs.field_changes.show_fields.Given as goal

abbrev pub invariant-loop-state : goal.invariant-loop-state
invariant-loop-state g l = record {
  long : length (g.B.Buffer.bytes l.reply) ≡ length (g.B.Buffer.bytes l.fn.reply) + 3 * l.state-index;
  made : g.B.Buffer.bytes l.reply ++ shown_fields l.operational (drop l.state-index l.states) ≡ g.B.Buffer.bytes l.fn.reply ++ shown_fields l.operational l.states;
}
