use Rattle.undo_core.proofs.Course.{goes_on_over_frames}
use Rattle.undo_core.proofs.laws.resumed_sends_the_same_frames.Goals as goal

pub returns : goal.returns
returns c names = goes_on_over_frames names
