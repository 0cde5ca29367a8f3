use Rattle.model_headline.proofs.statement.machinery_refines_the_statement.Goals as goal
use Rattle.model_headline.proofs.Strong.{refines}

pub returns : goal.returns
returns c = refines
