-- A step that sets a LAN parameter, as one value.
use Rattle.std.specs.Prelude.{codes}
use Rattle.plan_file.specs.declared.kind.lan_param.TheConstants.{FIELDS}
use Rattle.plan_file.specs.StepKind.{StepKind}
use Rattle.plan_file.specs.Kinds.LanParam.{HoldsOp}
use Rattle.plan_file.specs.Kinds.LanParam.Laws.{only}

abbrev pub kind : StepKind
kind = record { word = codes "lan-param"; rows = FIELDS; Holds = HoldsOp; only = only }
