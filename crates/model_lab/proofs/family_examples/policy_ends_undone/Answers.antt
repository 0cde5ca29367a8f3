use Rattle.model_lab.proofs.family_examples.policy_ends_undone.Goals as goal
use Rattle.model_lab.proofs.FamilyExample.{ends_undone}

pub returns : goal.returns
returns c = ends_undone
