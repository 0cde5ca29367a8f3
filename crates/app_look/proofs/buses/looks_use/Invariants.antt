use Rattle.std.proofs.Common.{◌≡◌, take}
use Rattle.app_look.specs.Findings.{are_used}
use Rattle.app_look.proofs.buses.looks_use.Given as goal

abbrev pub invariant-loop-key : goal.invariant-loop-key
invariant-loop-key l = record { seen : l.used ≡ are_used l.bus (take l.key-index l.keys) }
