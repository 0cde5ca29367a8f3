use Rattle.std.proofs.Common.{refl}
use Rattle.bmc_shared.proofs.shared.Locked.close.Goals as goal

pub returns-clause-exact : goal.returns-clause-exact
returns-clause-exact g c = ((λ ok. c.matches-matches.ensures.0 c.if-not-matches.false), λ all. refl)
