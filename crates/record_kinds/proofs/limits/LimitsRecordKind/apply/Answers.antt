use Rattle.std.proofs.Common.{◌≡◌, subst}
use Rattle.record_base.specs.declared.op.Op.{Op}
use Rattle.record_kinds.specs.Limits.{key_of, is_of, valid}
use Rattle.record_kinds.specs.declared.limits.Limits.{Limits}
use Rattle.record_kinds.proofs.limits.LimitsRecordKind.apply.Goals as goal

-- the operation's record has the limits, by whatever name both are known
moved : (limits same : Limits) (op other : Op) → limits ≡ same → op ≡ other → is_of limits (key_of op) → is_of same (key_of other)
moved limits same op other e f of = subst (λ (l : Limits). is_of l (key_of other)) e (subst (λ (o : Op). is_of limits (key_of o)) f of)

-- ---- two lines for each kind

pub apply-requires : goal.apply-requires
apply-requires c = (tt, subst (λ (s : Limits). valid s c.args.value.now) c.in-Thresholds.is c.requires.is_valid)

pub apply-requires-in-EventEnable-op : goal.apply-requires-in-EventEnable-op
apply-requires-in-EventEnable-op c = (tt, subst (λ (s : Limits). valid s c.args.value.now) c.in-EventEnable.is c.requires.is_valid)

pub apply-requires-in-PowerPolicy-op : goal.apply-requires-in-PowerPolicy-op
apply-requires-in-PowerPolicy-op c = (tt, subst (λ (s : Limits). valid s c.args.value.now) c.in-PowerPolicy.is c.requires.is_valid)

pub apply-requires-in-Watchdog-op : goal.apply-requires-in-Watchdog-op
apply-requires-in-Watchdog-op c = (tt, subst (λ (s : Limits). valid s c.args.value.now) c.in-Watchdog.is c.requires.is_valid)

pub apply-requires-in-GlobalEnables-op : goal.apply-requires-in-GlobalEnables-op
apply-requires-in-GlobalEnables-op c = (tt, subst (λ (s : Limits). valid s c.args.value.now) c.in-GlobalEnables.is c.requires.is_valid)

pub apply-requires-in-NumericEffecter-op : goal.apply-requires-in-NumericEffecter-op
apply-requires-in-NumericEffecter-op c = (tt, subst (λ (s : Limits). valid s c.args.value.now) c.in-NumericEffecter.is c.requires.is_valid)

pub apply-requires-in-StateEffecter-op : goal.apply-requires-in-StateEffecter-op
apply-requires-in-StateEffecter-op c = (tt, subst (λ (s : Limits). valid s c.args.value.now) c.in-StateEffecter.is c.requires.is_valid)

pub apply-requires-in-BootParam-op : goal.apply-requires-in-BootParam-op
apply-requires-in-BootParam-op c = (
  moved _ _ _ _ c.in-BootParam.is c.in-BootParam-op.is c.requires.of_record,
  subst (λ (s : Limits). valid s c.args.value.now) c.in-BootParam.is c.requires.is_valid,
)

pub returns-in-Thresholds-op : goal.returns-in-Thresholds-op
returns-in-Thresholds-op c = rw (c.in-Thresholds.is, c.in-Thresholds-op.is) c.apply.ensures

pub returns-in-Hysteresis-op : goal.returns-in-Hysteresis-op
returns-in-Hysteresis-op c = rw (c.in-Hysteresis.is, c.in-Hysteresis-op.is) c.apply-in-Hysteresis-op.ensures

pub returns-in-EventEnable-op : goal.returns-in-EventEnable-op
returns-in-EventEnable-op c = rw (c.in-EventEnable.is, c.in-EventEnable-op.is) c.apply-in-EventEnable-op.ensures

pub returns-in-PowerPolicy-op : goal.returns-in-PowerPolicy-op
returns-in-PowerPolicy-op c = rw (c.in-PowerPolicy.is, c.in-PowerPolicy-op.is) c.apply-in-PowerPolicy-op.ensures

pub returns-in-Watchdog-op : goal.returns-in-Watchdog-op
returns-in-Watchdog-op c = rw (c.in-Watchdog.is, c.in-Watchdog-op.is) c.apply-in-Watchdog-op.ensures

pub returns-in-GlobalEnables-op : goal.returns-in-GlobalEnables-op
returns-in-GlobalEnables-op c = rw (c.in-GlobalEnables.is, c.in-GlobalEnables-op.is) c.apply-in-GlobalEnables-op.ensures

pub returns-in-BootParam-op : goal.returns-in-BootParam-op
returns-in-BootParam-op c = rw (c.in-BootParam.is, c.in-BootParam-op.is) c.apply-in-BootParam-op.ensures

pub returns-in-NumericEffecter-op : goal.returns-in-NumericEffecter-op
returns-in-NumericEffecter-op c = rw (c.in-NumericEffecter.is, c.in-NumericEffecter-op.is) c.apply-in-NumericEffecter-op.ensures

pub returns-in-StateEffecter-op : goal.returns-in-StateEffecter-op
returns-in-StateEffecter-op c = rw (c.in-StateEffecter.is, c.in-StateEffecter-op.is) c.apply-in-StateEffecter-op.ensures

pub apply-requires-in-UserName-op : goal.apply-requires-in-UserName-op
apply-requires-in-UserName-op c = (tt, subst (λ (s : Limits). valid s c.args.value.now) c.in-UserName.is c.requires.is_valid)

pub returns-in-UserName-op : goal.returns-in-UserName-op
returns-in-UserName-op c = rw (c.in-UserName.is, c.in-UserName-op.is) c.apply-in-UserName-op.ensures

pub apply-requires-in-UserAccess-op : goal.apply-requires-in-UserAccess-op
apply-requires-in-UserAccess-op c = (tt, subst (λ (s : Limits). valid s c.args.value.now) c.in-UserAccess.is c.requires.is_valid)

pub returns-in-UserAccess-op : goal.returns-in-UserAccess-op
returns-in-UserAccess-op c = rw (c.in-UserAccess.is, c.in-UserAccess-op.is) c.apply-in-UserAccess-op.ensures

pub apply-requires-in-ChannelAccess-op : goal.apply-requires-in-ChannelAccess-op
apply-requires-in-ChannelAccess-op c = (tt, subst (λ (s : Limits). valid s c.args.value.now) c.in-ChannelAccess.is c.requires.is_valid)

pub returns-in-ChannelAccess-op : goal.returns-in-ChannelAccess-op
returns-in-ChannelAccess-op c = rw (c.in-ChannelAccess.is, c.in-ChannelAccess-op.is) c.apply-in-ChannelAccess-op.ensures

pub apply-requires-in-BiosAttribute-op : goal.apply-requires-in-BiosAttribute-op
apply-requires-in-BiosAttribute-op c = (
  moved _ _ _ _ c.in-BiosAttribute.is c.in-BiosAttribute-op.is c.requires.of_record,
  subst (λ (s : Limits). valid s c.args.value.now) c.in-BiosAttribute.is c.requires.is_valid,
)

pub returns-in-BiosAttribute-op : goal.returns-in-BiosAttribute-op
returns-in-BiosAttribute-op c = rw (c.in-BiosAttribute.is, c.in-BiosAttribute-op.is) c.apply-in-BiosAttribute-op.ensures

pub apply-requires-in-LanParam-op : goal.apply-requires-in-LanParam-op
apply-requires-in-LanParam-op c = (
  moved _ _ _ _ c.in-LanParam.is c.in-LanParam-op.is c.requires.of_record,
  subst (λ (s : Limits). valid s c.args.value.now) c.in-LanParam.is c.requires.is_valid,
)

pub returns-in-LanParam-op : goal.returns-in-LanParam-op
returns-in-LanParam-op c = rw (c.in-LanParam.is, c.in-LanParam-op.is) c.apply-in-LanParam-op.ensures
