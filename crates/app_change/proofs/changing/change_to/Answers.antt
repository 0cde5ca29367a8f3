use Rattle.std.proofs.Common.{inr}
use Rattle.app_change.proofs.changing.change_to.Goals as goal

pub returns-else-words-clause-ends : goal.returns-else-words-clause-ends
returns-else-words-clause-ends g c = inr (c.if-words.false, (c.apply_over.result.halted, c.apply_over.ensures.ends))
