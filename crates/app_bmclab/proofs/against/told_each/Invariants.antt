use Rattle.std.proofs.Common.{map, string_bytes, take}
use Rattle.app_bmclab.specs.Against.{TellsEach}
use Rattle.app_bmclab.proofs.against.told_each.Given as goal

abbrev pub invariant-loop-word : goal.invariant-loop-word
invariant-loop-word g l = TellsEach (g.F.TextFiles.gives l.files) l.board (map string_bytes (take l.word-index l.words)) l.account.outcomes.items (string_bytes l.account.text)
