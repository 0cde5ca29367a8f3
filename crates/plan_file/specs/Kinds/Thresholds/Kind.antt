-- A step that sets thresholds, as one value.
use Rattle.std.specs.Prelude.{codes}
use Rattle.plan_file.specs.declared.kind.thresholds.TheConstants.{FIELDS}
use Rattle.plan_file.specs.StepKind.{StepKind}
use Rattle.plan_file.specs.Kinds.Thresholds.{HoldsOp}
use Rattle.plan_file.specs.Kinds.Thresholds.Laws.{only}

abbrev pub kind : StepKind
kind = record { word = codes "thresholds"; rows = FIELDS; Holds = HoldsOp; only = only }
