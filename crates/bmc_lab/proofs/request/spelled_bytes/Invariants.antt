use Rattle.std.proofs.Common.{map, string_bytes, take}
use Rattle.bmc_lab.specs.Request.{SpellBytes}
use Rattle.bmc_lab.proofs.request.spelled_bytes.Given as goal

abbrev pub invariant-loop-word : goal.invariant-loop-word
invariant-loop-word l = SpellBytes (map string_bytes (take l.word-index l.words)) l.all.items
