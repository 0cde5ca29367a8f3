use Rattle.model_undo.proofs.Unsettled.{unsettled_by_quiet}
use Rattle.undo_core.specs.Shown.{words_of}
use Rattle.undo_core.proofs.laws.unsettled_only_by_quiet.Goals as goal

pub returns : goal.returns
returns c names = unsettled_by_quiet (words_of names)
