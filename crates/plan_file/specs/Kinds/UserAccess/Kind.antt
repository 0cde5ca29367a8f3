-- A step that sets what a user may do on a channel, as one value.
use Rattle.std.specs.Prelude.{codes}
use Rattle.plan_file.specs.declared.kind.user_access.TheConstants.{FIELDS}
use Rattle.plan_file.specs.StepKind.{StepKind}
use Rattle.plan_file.specs.Kinds.UserAccess.{HoldsOp}
use Rattle.plan_file.specs.Kinds.UserAccess.Laws.{only}

abbrev pub kind : StepKind
kind = record { word = codes "user-access"; rows = FIELDS; Holds = HoldsOp; only = only }
