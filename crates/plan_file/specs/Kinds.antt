-- The kinds of step.
pub mod Thresholds
pub mod Hysteresis
pub mod EventEnable
pub mod Watchdog
pub mod PowerPolicy
pub mod GlobalEnables
pub mod BootParam
pub mod BiosAttribute
pub mod StateEffecter
pub mod NumericEffecter
pub mod UserName
pub mod UserAccess
pub mod ChannelAccess
pub mod LanParam
use Rattle.std.specs.Prelude.{Option}
use Rattle.std.specs.List.{find}
use Rattle.toml.specs.Data.{Members}
use Rattle.record_base.specs.declared.op.Op.{Op}
use Rattle.record_base.specs.declared.op.Op.TheVariants as op
use Rattle.text_fields.specs.declared.field.Field.TheVariants as field
use Rattle.text_fields.specs.Ranges.{has_text}
use Rattle.plan_file.specs.declared.kind.Kind.{Kind}
use Rattle.plan_file.specs.declared.kind.Kind.TheVariants as kind
use Rattle.plan_file.specs.declared.kind.TheConstants.{KINDS}
use Rattle.plan_file.specs.StepKind.{StepKind}

-- the kind, as one value
abbrev pub of_kind : Kind → StepKind
of_kind kind.Thresholds = Thresholds.Kind.kind
of_kind kind.Hysteresis = Hysteresis.Kind.kind
of_kind kind.EventEnable = EventEnable.Kind.kind
of_kind kind.Watchdog = Watchdog.Kind.kind
of_kind kind.PowerPolicy = PowerPolicy.Kind.kind
of_kind kind.GlobalEnables = GlobalEnables.Kind.kind
of_kind kind.BootParam = BootParam.Kind.kind
of_kind kind.BiosAttribute = BiosAttribute.Kind.kind
of_kind kind.StateEffecter = StateEffecter.Kind.kind
of_kind kind.NumericEffecter = NumericEffecter.Kind.kind
of_kind kind.UserName = UserName.Kind.kind
of_kind kind.UserAccess = UserAccess.Kind.kind
of_kind kind.ChannelAccess = ChannelAccess.Kind.kind
of_kind kind.LanParam = LanParam.Kind.kind

-- the kind of the steps that make such a change
abbrev pub kind_of : Op → Kind
kind_of (op.Thresholds set) = kind.Thresholds
kind_of (op.Hysteresis set) = kind.Hysteresis
kind_of (op.EventEnable set) = kind.EventEnable
kind_of (op.Watchdog set) = kind.Watchdog
kind_of (op.PowerPolicy set) = kind.PowerPolicy
kind_of (op.GlobalEnables set) = kind.GlobalEnables
kind_of (op.BootParam set) = kind.BootParam
kind_of (op.BiosAttribute set) = kind.BiosAttribute
kind_of (op.StateEffecter set) = kind.StateEffecter
kind_of (op.NumericEffecter set) = kind.NumericEffecter
kind_of (op.UserName set) = kind.UserName
kind_of (op.UserAccess set) = kind.UserAccess
kind_of (op.ChannelAccess set) = kind.ChannelAccess
kind_of (op.LanParam set) = kind.LanParam

-- the kind that a step names
unfoldable pub kind_in : Members → Option Kind
kind_in tree = find (λ named. has_text field.Kind (of_kind named).word tree) KINDS
