use Rattle.std.proofs.Common.{take}
use Rattle.std.specs.Fmt.{HasWritten, IsPlainFormatter}
use Rattle.record_words.specs.Quotes.{escaped}
use Rattle.record_words.proofs.quoted.Quoted.write_escaped.Given as goal

abbrev pub invariant-loop-byte : goal.invariant-loop-byte
invariant-loop-byte g l = IsPlainFormatter l.initial.f → HasWritten g.W.Write.write_str_gives l.initial.f (escaped (take l.byte-index l.byte-items)) l.f
