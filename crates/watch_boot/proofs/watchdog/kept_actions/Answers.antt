use Rattle.watch_boot.proofs.Bits.{action_bits}
use Rattle.watch_boot.proofs.watchdog.kept_actions.Goals as goal

pub returns : goal.returns
returns c = action_bits c.args.actions
