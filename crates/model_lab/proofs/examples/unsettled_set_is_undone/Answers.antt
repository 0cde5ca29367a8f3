use Rattle.model_lab.proofs.Example.{settles_again}
use Rattle.model_lab.proofs.examples.unsettled_set_is_undone.Goals as goal

pub returns : goal.returns
returns c = settles_again
