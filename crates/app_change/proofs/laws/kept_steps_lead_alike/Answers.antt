use Rattle.app_change.proofs.KeptSteps.{kept_lead_alike}
use Rattle.app_change.proofs.laws.kept_steps_lead_alike.Goals as goal

pub returns : goal.returns
returns c = kept_lead_alike
