use Rattle.std.proofs.Common.{take}
use Rattle.cfg_records.specs.Records.{KeysDiffer}
use Rattle.cfg_records.proofs.packed_store.keys_differ.Given as goal

abbrev pub invariant-loop-place : goal.invariant-loop-place
invariant-loop-place l = KeysDiffer (take l.place l.pairs)
