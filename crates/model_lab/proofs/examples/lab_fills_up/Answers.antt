use Rattle.model_lab.proofs.FullExample.{fills_up}
use Rattle.model_lab.proofs.examples.lab_fills_up.Goals as goal

pub returns : goal.returns
returns c = fills_up
