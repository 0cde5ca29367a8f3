-- A step that sets the value of a BIOS attribute, as one value.
use Rattle.std.specs.Prelude.{codes}
use Rattle.plan_file.specs.declared.kind.bios_attribute.TheConstants.{FIELDS}
use Rattle.plan_file.specs.StepKind.{StepKind}
use Rattle.plan_file.specs.Kinds.BiosAttribute.{HoldsOp}
use Rattle.plan_file.specs.Kinds.BiosAttribute.Laws.{only}

abbrev pub kind : StepKind
kind = record { word = codes "bios-attribute"; rows = FIELDS; Holds = HoldsOp; only = only }
