use Rattle.std.proofs.Common.{◌≡◌, ◌+◌, ◌*◌, ◌++◌, length, drop}
use Rattle.effecter_recs.specs.FieldChanges.{change_bytes}
use Rattle.effecter_recs.specs.State.{state_body}
use Rattle.effecter_recs.proofs.state.body.Given as goal

abbrev pub invariant-loop-change : goal.invariant-loop-change
invariant-loop-change l = record {
  long : length l.body ≡ 3 + 2 * l.change-index;
  made : l.body ++ change_bytes (drop l.change-index l.changes) ≡ state_body l.op;
}
