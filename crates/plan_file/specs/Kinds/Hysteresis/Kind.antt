-- A step that sets hysteresis, as one value.
use Rattle.std.specs.Prelude.{codes}
use Rattle.plan_file.specs.declared.kind.hysteresis.TheConstants.{FIELDS}
use Rattle.plan_file.specs.StepKind.{StepKind}
use Rattle.plan_file.specs.Kinds.Hysteresis.{HoldsOp}
use Rattle.plan_file.specs.Kinds.Hysteresis.Laws.{only}

abbrev pub kind : StepKind
kind = record { word = codes "hysteresis"; rows = FIELDS; Holds = HoldsOp; only = only }
