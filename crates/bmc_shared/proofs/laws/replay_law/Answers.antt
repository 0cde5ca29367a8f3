use Rattle.bmc_shared.proofs.Replaying.{goes_on}
use Rattle.bmc_shared.proofs.Following.{replays_by_relation}
use Rattle.bmc_shared.proofs.laws.replay_law.Goals as goal

pub returns-clause-relation : goal.returns-clause-relation
returns-clause-relation c = replays_by_relation

pub returns-clause-goes_on : goal.returns-clause-goes_on
returns-clause-goes_on c = goes_on
