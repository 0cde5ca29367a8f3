use Rattle.std.proofs.Common.{arith}
use Rattle.watch_boot.proofs.Bits.{use_bits}
use Rattle.watch_boot.proofs.watchdog.kept_use.Goals as goal

pub returns : goal.returns
returns c = use_bits c.args.timer_use (omega arith)
