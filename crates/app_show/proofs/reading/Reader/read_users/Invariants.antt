use Rattle.std.proofs.Common.{take}
use Rattle.app_show.specs.Asking.{AsksUsers}
use Rattle.app_show.specs.Reading.{ReadsOn}
use Rattle.app_show.proofs.reading.Reader.read_users.Given as goal

abbrev pub invariant-loop-place : goal.invariant-loop-place
invariant-loop-place l = ReadsOn (AsksUsers (take l.place l.channels) 0 l.most) l.fn.session l.session l.fn.self l.self
