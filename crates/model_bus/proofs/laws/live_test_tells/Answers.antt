use Rattle.model_bus.proofs.laws.live_test_tells.Goals as goal
use Rattle.model_bus.proofs.Decides.{test_tells}

pub returns : goal.returns
returns c = test_tells
