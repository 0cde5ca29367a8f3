use Rattle.std.proofs.Common.{refl}
use Rattle.bmc_core.proofs.Cutting.{packets-agree}
use Rattle.bmc_core.proofs.packets.cuts_agree.Goals as goal

pub returns-clause-unit : goal.returns-clause-unit
returns-clause-unit c = refl

pub returns-clause-cut : goal.returns-clause-cut
returns-clause-cut c = packets-agree
