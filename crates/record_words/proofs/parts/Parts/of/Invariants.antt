use Rattle.std.proofs.Common.{◌≡◌, ◌≤◌, length, take}
use Rattle.record_words.specs.PartWords.{parts_of}
use Rattle.record_words.proofs.parts.Parts.of.Given as goal

abbrev pub invariant-loop-field : goal.invariant-loop-field
invariant-loop-field l = (l.parts ≡ parts_of l.way l.olds (take l.field-index l.field-items)) × (length l.parts ≤ l.field-index) × (length l.field-items ≤ 9)
