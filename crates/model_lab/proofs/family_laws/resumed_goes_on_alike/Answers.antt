use Rattle.model_lab.proofs.family_laws.resumed_goes_on_alike.Goals as goal
use Rattle.model_undo.proofs.Resume.{goes_on_alike}
use Rattle.model_lab.specs.ManagerWords.{manager_words}

pub returns : goal.returns
returns c at = goes_on_alike (manager_words at)
