-- A step that sets states of a state effecter, as one value.
use Rattle.std.specs.Prelude.{codes}
use Rattle.plan_file.specs.declared.kind.state_effecter.TheConstants.{FIELDS}
use Rattle.plan_file.specs.StepKind.{StepKind}
use Rattle.plan_file.specs.Kinds.StateEffecter.{HoldsOp}
use Rattle.plan_file.specs.Kinds.StateEffecter.Laws.{only}

abbrev pub kind : StepKind
kind = record { word = codes "state-effecter"; rows = FIELDS; Holds = HoldsOp; only = only }
