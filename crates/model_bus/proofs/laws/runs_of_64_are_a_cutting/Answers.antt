use Rattle.model_bus.proofs.laws.runs_of_64_are_a_cutting.Goals as goal
use Rattle.model_bus.proofs.Cutting.{packets_cut, cuts_all}

pub returns-clause-cut : goal.returns-clause-cut
returns-clause-cut c = packets_cut

pub returns-clause-each : goal.returns-clause-each
returns-clause-each c = cuts_all
