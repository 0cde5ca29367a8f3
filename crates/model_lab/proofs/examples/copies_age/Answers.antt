use Rattle.model_lab.proofs.LongExample.{copies_age}
use Rattle.model_lab.proofs.examples.copies_age.Goals as goal

pub returns : goal.returns
returns c = copies_age
