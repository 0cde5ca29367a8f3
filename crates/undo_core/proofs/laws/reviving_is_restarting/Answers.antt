use Rattle.undo_core.proofs.Journals as journals
use Rattle.undo_core.proofs.laws.reviving_is_restarting.Goals as goal

pub returns : goal.returns
returns c = journals.reviving_is_restarting
