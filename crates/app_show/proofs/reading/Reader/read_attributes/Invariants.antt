use Rattle.std.proofs.Common.{◌<◌}
use Rattle.app_show.specs.Asking.{most_absent}
use Rattle.app_show.specs.Reading.{ReadsOn}
use Rattle.app_show.proofs.AskedFor.{HandlesBefore}
use Rattle.app_show.proofs.reading.Reader.read_attributes.Given as goal

abbrev pub invariant-loop-handle : goal.invariant-loop-handle
invariant-loop-handle l = record {
  reads : ReadsOn (HandlesBefore l.handle l.absent) l.fn.session l.session l.fn.self l.self;
  few : l.absent < most_absent;
}
