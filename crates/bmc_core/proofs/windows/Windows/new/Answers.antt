use Rattle.std.proofs.Common.{None}
use Rattle.std.proofs.Math.ListN.{replicate}
use Rattle.bmc_core.proofs.Tied.{nobody}
use Rattle.bmc_core.proofs.Tables.{none_kept}
use Rattle.bmc_core.proofs.windows.Windows.new.Goals as goal

pub returns : goal.returns
returns g c reading = none_kept g.row.NUMBERS reading (replicate 256 None) (replicate 8 None) c.loop-place.windows.items (nobody 256) (nobody 8)
