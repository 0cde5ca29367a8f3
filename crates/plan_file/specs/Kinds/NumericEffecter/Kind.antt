-- A step that sets the value of a numeric effecter, as one value.
use Rattle.std.specs.Prelude.{codes}
use Rattle.plan_file.specs.declared.kind.numeric_effecter.TheConstants.{FIELDS}
use Rattle.plan_file.specs.StepKind.{StepKind}
use Rattle.plan_file.specs.Kinds.NumericEffecter.{HoldsOp}
use Rattle.plan_file.specs.Kinds.NumericEffecter.Laws.{only}

abbrev pub kind : StepKind
kind = record { word = codes "numeric-effecter"; rows = FIELDS; Holds = HoldsOp; only = only }
