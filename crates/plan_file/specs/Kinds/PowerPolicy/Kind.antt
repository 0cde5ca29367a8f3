-- A step that sets the power restore policy, as one value.
use Rattle.std.specs.Prelude.{codes}
use Rattle.plan_file.specs.declared.kind.power_policy.TheConstants.{FIELDS}
use Rattle.plan_file.specs.StepKind.{StepKind}
use Rattle.plan_file.specs.Kinds.PowerPolicy.{HoldsOp}
use Rattle.plan_file.specs.Kinds.PowerPolicy.Laws.{only}

abbrev pub kind : StepKind
kind = record { word = codes "power-policy"; rows = FIELDS; Holds = HoldsOp; only = only }
