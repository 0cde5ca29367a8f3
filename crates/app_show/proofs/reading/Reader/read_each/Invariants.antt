use Rattle.std.proofs.Common.{take}
use Rattle.app_show.specs.Asking.{AsksEach}
use Rattle.app_show.specs.Reading.{ReadsOn}
use Rattle.app_show.proofs.reading.Reader.read_each.Given as goal

abbrev pub invariant-loop-place : goal.invariant-loop-place
invariant-loop-place l = ReadsOn (AsksEach (take l.place l.keys)) l.fn.session l.session l.fn.self l.self
