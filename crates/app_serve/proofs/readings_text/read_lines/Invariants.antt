use Rattle.std.proofs.Common.{map, take}
use Rattle.app_serve.specs.ReadingsText.{AreReadingLines}
use Rattle.app_serve.proofs.readings_text.read_lines.Given as goal

abbrev pub invariant-loop-place : goal.invariant-loop-place
invariant-loop-place l = AreReadingLines (map (λ x. x.now) (take l.place l.lines)) l.list.items
