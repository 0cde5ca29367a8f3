use Rattle.watch_boot.specs.WatchdogLaws.{clears_named}
use Rattle.watch_boot.proofs.laws.named_flags_are_cleared.Goals as goal

pub returns : goal.returns
returns c = clears_named
