-- A step that sets the watchdog timer, as one value.
use Rattle.std.specs.Prelude.{codes}
use Rattle.plan_file.specs.declared.kind.watchdog.TheConstants.{FIELDS}
use Rattle.plan_file.specs.StepKind.{StepKind}
use Rattle.plan_file.specs.Kinds.Watchdog.{HoldsOp}
use Rattle.plan_file.specs.Kinds.Watchdog.Laws.{only}

abbrev pub kind : StepKind
kind = record { word = codes "watchdog"; rows = FIELDS; Holds = HoldsOp; only = only }
