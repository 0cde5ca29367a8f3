use Rattle.std.proofs.Common.{◌≡◌, take}
use Rattle.cfg_records.proofs.plain_store.kept_records.Given as goal

abbrev pub invariant-loop-key : goal.invariant-loop-key
invariant-loop-key l = l.records.items ≡ take l.key-index l.pairs
