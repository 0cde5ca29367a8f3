use Rattle.plan_file.proofs.OnePlan.{one_reading}
use Rattle.plan_file.proofs.laws.one_plan.Goals as goal

pub returns : goal.returns
returns c = one_reading
