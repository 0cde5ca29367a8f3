use Rattle.std.proofs.Common.{◌≡◌, ℕ, ◌+◌, ◌++◌, length, take}
use Rattle.effecter_recs.specs.FieldChanges.{changes_of}
use Rattle.effecter_recs.proofs.field_changes.changes_in.Given as goal

abbrev pub invariant-loop-place : goal.invariant-loop-place
invariant-loop-place l = record {
  long : length l.changes ≡ l._place;
  made : (k : ℕ) → k + l._place ≡ 9 → l.changes ++ take k (changes_of l.rest) ≡ take 9 (changes_of l.bytes);
}
