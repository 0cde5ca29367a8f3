use Rattle.std.proofs.Common.{rules}
use Rattle.bmc_ports.proofs.Since.{counts_anew, counts_quiet}
use Rattle.bmc_ports.proofs.slices.quiet_behind.Goals as goal

pub returns-in-Some : goal.returns-in-Some
returns-in-Some c = rw c.in-Some.is (counts_anew (λ frame. Unit {0}) c.args.quiet _ tt)

pub returns-in-None : goal.returns-in-None
returns-in-None c = rw c.in-None.is (counts_quiet (λ frame. Unit {0}) c.args.quiet _ (search rules))
