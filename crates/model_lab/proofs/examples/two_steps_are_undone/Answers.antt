use Rattle.model_lab.proofs.Example.{two_steps_undone}
use Rattle.model_lab.proofs.examples.two_steps_are_undone.Goals as goal

pub returns : goal.returns
returns c = two_steps_undone
