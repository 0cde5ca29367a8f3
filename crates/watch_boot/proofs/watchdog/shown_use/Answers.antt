use Rattle.std.proofs.Common.{◌∙◌, sym, ap}
use Rattle.watch_boot.specs.Watchdog.{shown_use}
use Rattle.watch_boot.proofs.Bits.{running_bit}
use Rattle.watch_boot.proofs.watchdog.shown_use.Goals as goal

pub returns-then-running : goal.returns-then-running
returns-then-running c = running_bit c.args.timer_use c.requires ∙ sym (ap (shown_use c.args.timer_use) c.if-running.true)
