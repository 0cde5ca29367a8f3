use Rattle.std.proofs.Common.{◌≡◌, take}
use Rattle.app_change.specs.Kept.{have_record}
use Rattle.app_change.proofs.keeping.have_record.Given as goal

abbrev pub invariant-loop-place : goal.invariant-loop-place
invariant-loop-place l = record { seen : l.has ≡ have_record (take l.place l.steps) l.key }
