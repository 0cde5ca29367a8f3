use Rattle.std.proofs.Common.{inr}
use Rattle.app_revert.proofs.looking.look_behind.Goals as goal

pub returns-in-None : goal.returns-in-None
returns-in-None g c = inr (c.unanswered.ensures, c.new.ensures.none)
