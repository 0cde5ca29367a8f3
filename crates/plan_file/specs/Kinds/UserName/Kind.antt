-- A step that sets the name of a user, as one value.
use Rattle.std.specs.Prelude.{codes}
use Rattle.plan_file.specs.declared.kind.user_name.TheConstants.{FIELDS}
use Rattle.plan_file.specs.StepKind.{StepKind}
use Rattle.plan_file.specs.Kinds.UserName.{HoldsOp}
use Rattle.plan_file.specs.Kinds.UserName.Laws.{only}

abbrev pub kind : StepKind
kind = record { word = codes "user-name"; rows = FIELDS; Holds = HoldsOp; only = only }
