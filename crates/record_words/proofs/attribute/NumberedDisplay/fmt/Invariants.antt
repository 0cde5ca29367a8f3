use Rattle.std.proofs.Common.{take}
use Rattle.std.specs.Fmt.{HasWritten, IsPlainFormatter}
use Rattle.record_words.specs.AttributeWords.{numbers_of}
use Rattle.record_words.proofs.attribute.NumberedDisplay.fmt.Given as goal

abbrev pub invariant-loop-byte : goal.invariant-loop-byte
invariant-loop-byte g l = IsPlainFormatter l.initial.f → HasWritten g.W.Write.write_str_gives l.initial.f (numbers_of (take l.byte-index l.byte-items)) l.f
