-- A step that sets the global enables, as one value.
use Rattle.std.specs.Prelude.{codes}
use Rattle.plan_file.specs.declared.kind.global_enables.TheConstants.{FIELDS}
use Rattle.plan_file.specs.StepKind.{StepKind}
use Rattle.plan_file.specs.Kinds.GlobalEnables.{HoldsOp}
use Rattle.plan_file.specs.Kinds.GlobalEnables.Laws.{only}

abbrev pub kind : StepKind
kind = record { word = codes "global-enables"; rows = FIELDS; Holds = HoldsOp; only = only }
