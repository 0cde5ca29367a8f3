use Rattle.model_lab.proofs.laws.bytes_are_of_the_buses.Goals as goal
use Rattle.model_lab.proofs.Spelled.{are_spelled}

pub returns : goal.returns
returns c = are_spelled
