-- A step that sets the access of a channel in one of its stores, as one value.
use Rattle.std.specs.Prelude.{codes}
use Rattle.plan_file.specs.declared.kind.channel_access.TheConstants.{FIELDS}
use Rattle.plan_file.specs.StepKind.{StepKind}
use Rattle.plan_file.specs.Kinds.ChannelAccess.{HoldsOp}
use Rattle.plan_file.specs.Kinds.ChannelAccess.Laws.{only}

abbrev pub kind : StepKind
kind = record { word = codes "channel-access"; rows = FIELDS; Holds = HoldsOp; only = only }
