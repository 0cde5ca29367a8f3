use Rattle.model_lab.proofs.family_laws.restarted_keeps_its_place.Goals as goal
use Rattle.model_undo.proofs.Restart.{is_kept}
use Rattle.model_lab.specs.ManagerWords.{manager_words}

pub returns : goal.returns
returns c at = is_kept (manager_words at)
