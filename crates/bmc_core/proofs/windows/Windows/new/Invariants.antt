use Rattle.std.proofs.Common.{◌≡◌, length}
use Rattle.bmc_core.proofs.windows.Windows.new.Given as goal

abbrev pub invariant-loop-place : goal.invariant-loop-place
invariant-loop-place g l = length l.windows.items ≡ l._place
