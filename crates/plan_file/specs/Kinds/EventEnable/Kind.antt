-- A step that sets which events are enabled, as one value.
use Rattle.std.specs.Prelude.{codes}
use Rattle.plan_file.specs.declared.kind.event_enable.TheConstants.{FIELDS}
use Rattle.plan_file.specs.StepKind.{StepKind}
use Rattle.plan_file.specs.Kinds.EventEnable.{HoldsOp}
use Rattle.plan_file.specs.Kinds.EventEnable.Laws.{only}

abbrev pub kind : StepKind
kind = record { word = codes "event-enable"; rows = FIELDS; Holds = HoldsOp; only = only }
