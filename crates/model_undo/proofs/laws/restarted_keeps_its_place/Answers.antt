use Rattle.model_undo.proofs.laws.restarted_keeps_its_place.Goals as goal
use Rattle.model_undo.specs.Registers.{register_words}
use Rattle.model_undo.proofs.Restart.{is_kept}

pub returns : goal.returns
returns c = is_kept register_words
