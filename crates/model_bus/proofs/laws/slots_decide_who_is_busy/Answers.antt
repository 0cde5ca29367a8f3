use Rattle.model_bus.proofs.laws.slots_decide_who_is_busy.Goals as goal
use Rattle.model_bus.proofs.Slots.{slots_decide}

pub returns : goal.returns
returns c = slots_decide
