use Rattle.model_bus.proofs.laws.greeting_clears_what_waits.Goals as goal
use Rattle.model_bus.proofs.GreetingTags.{greeting_clears}

pub returns : goal.returns
returns c = greeting_clears
