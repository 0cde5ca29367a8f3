use Rattle.std.proofs.Common.{◌≤◌, length, take, vec_capacity}
use Rattle.app_look.specs.Findings.{FindsEach}
use Rattle.app_look.proofs.records.look_at_each.Given as goal

abbrev pub invariant-loop-place : goal.invariant-loop-place
invariant-loop-place l = record {
  finds : FindsEach (take l.place l.keys) l.found.items l.fn.session l.session;
  room : length l.keys ≤ vec_capacity l.found;
  some : length l.found.items ≤ l.place;
}
