use Rattle.std.proofs.Common.{take}
use Rattle.std.specs.Fmt.{HasWritten, IsPlainFormatter}
use Rattle.record_words.specs.PartWords.{more_words}
use Rattle.record_words.proofs.parts.write_more.Given as goal

abbrev pub invariant-loop-part : goal.invariant-loop-part
invariant-loop-part g l = IsPlainFormatter l.initial.f → HasWritten g.W.Write.write_str_gives l.initial.f (more_words (take l.part-index l.parts)) l.f
