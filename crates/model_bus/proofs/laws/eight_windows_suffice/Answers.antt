use Rattle.model_bus.proofs.laws.eight_windows_suffice.Goals as goal
use Rattle.model_bus.proofs.Windows.{eight_suffice}

pub returns : goal.returns
returns c = eight_suffice
