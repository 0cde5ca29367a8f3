use Rattle.std.proofs.Common.{map, take, string_bytes}
use Rattle.std.specs.List.{AllZip}
use Rattle.app_bmclab.specs.Checks.{FileOutcome}
use Rattle.app_bmclab.proofs.check.check_each.Given as goal

abbrev pub invariant-loop-word : goal.invariant-loop-word
invariant-loop-word g l = AllZip (FileOutcome (g.F.TextFiles.gives l.files) l.said) (map string_bytes (take l.word-index l.words)) l.outcomes.items
