use Rattle.model_undo.specs.Registers.{register_words}
use Rattle.model_undo.proofs.Unsettled.{unsettled_by_quiet}
use Rattle.model_undo.proofs.laws.unsettled_only_by_quiet.Goals as goal

pub returns : goal.returns
returns c = unsettled_by_quiet register_words
