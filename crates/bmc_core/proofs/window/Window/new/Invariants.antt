use Rattle.std.proofs.Common.{◌≡◌, length}
use Rattle.bmc_core.proofs.window.Window.new.Given as goal

abbrev pub invariant-loop-number : goal.invariant-loop-number
invariant-loop-number g l = length l.places.items ≡ l._number
