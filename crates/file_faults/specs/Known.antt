-- Which keys the readers of files know.
use Rattle.std.specs.Prelude.{List, ◌++◌, Option, None, Some}
use Rattle.toml.specs.Data.{Members}
use Rattle.text_fields.specs.declared.row.Row.{Row}
use Rattle.text_board.specs.declared.tables.TheConstants.{TOP, DEVICE, SENSOR, STATE, NUMERIC}
use Rattle.text_board.specs.declared.lan_items.TheConstants.{LAN}
use Rattle.text_board.specs.Faults.{attribute_rows, session_rows}
use Rattle.plan_file.specs.declared.kind.Kind.{Kind}
use Rattle.plan_file.specs.declared.kind.TheConstants.{KIND}
use Rattle.plan_file.specs.declared.plan.TheConstants.{PLAN}
use Rattle.plan_file.specs.Kinds.{of_kind, kind_in}
use Rattle.file_faults.specs.declared.group.Group.{Group}
use Rattle.file_faults.specs.declared.group.Group.TheVariants as group

-- the fields of a step of this kind
abbrev pub step_rows : Option Kind → List Row
step_rows None = KIND
step_rows (Some kind) = KIND ++ (of_kind kind).rows

-- the fields that a table of the group can have
abbrev pub known : Group → Members → List Row
known group.Top tree = TOP
known group.Device tree = DEVICE
known group.Sensor tree = SENSOR
known group.Channel tree = session_rows 0
known group.Lan tree = LAN
known group.Attribute tree = attribute_rows tree
known group.State tree = STATE
known group.Numeric tree = NUMERIC
known group.Plan tree = PLAN
known group.Step tree = step_rows (kind_in tree)
