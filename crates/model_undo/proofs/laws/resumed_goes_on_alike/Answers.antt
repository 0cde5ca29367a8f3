use Rattle.model_undo.proofs.laws.resumed_goes_on_alike.Goals as goal
use Rattle.model_undo.specs.Registers.{register_words}
use Rattle.model_undo.proofs.Resume.{goes_on_alike}

pub returns : goal.returns
returns c = goes_on_alike register_words
