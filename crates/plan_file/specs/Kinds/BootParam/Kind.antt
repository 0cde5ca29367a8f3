-- A step that sets a boot parameter, as one value.
use Rattle.std.specs.Prelude.{codes}
use Rattle.plan_file.specs.declared.kind.boot_param.TheConstants.{FIELDS}
use Rattle.plan_file.specs.StepKind.{StepKind}
use Rattle.plan_file.specs.Kinds.BootParam.{HoldsOp}
use Rattle.plan_file.specs.Kinds.BootParam.Laws.{only}

abbrev pub kind : StepKind
kind = record { word = codes "boot-param"; rows = FIELDS; Holds = HoldsOp; only = only }
