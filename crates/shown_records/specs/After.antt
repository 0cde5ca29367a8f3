-- What a Get of a record shows once an operation was carried out, made of what it showed before. It is meant of data that a Get of that record
-- shows: in others no place has a meaning.
use Rattle.std.specs.Prelude.{ℕ, List}
use Rattle.record_base.specs.declared.op.Op.{Op}
use Rattle.record_base.specs.declared.op.Op.TheVariants as op
use Rattle.shown_records.specs.Sensors.{after_event_enable, after_hysteresis, after_thresholds}
use Rattle.shown_records.specs.Effecters.{after_numeric, after_states}
use Rattle.shown_records.specs.Users.{after_channel_access, after_lan_param, after_user_access, after_user_name}
use Rattle.shown_records.specs.Settings.{after_attribute, after_boot_param, after_enables, after_policy, after_watchdog}

abbrev pub after_of : Op → List ℕ → List ℕ
after_of (op.Thresholds set) shown = after_thresholds set shown
after_of (op.Hysteresis set) shown = after_hysteresis set shown
after_of (op.EventEnable set) shown = after_event_enable set shown
after_of (op.PowerPolicy set) shown = after_policy set shown
after_of (op.Watchdog set) shown = after_watchdog set shown
after_of (op.GlobalEnables set) shown = after_enables set shown
after_of (op.BootParam set) shown = after_boot_param set shown
after_of (op.NumericEffecter set) shown = after_numeric set shown
after_of (op.StateEffecter set) shown = after_states set shown
after_of (op.UserName set) shown = after_user_name set shown
after_of (op.UserAccess set) shown = after_user_access set shown
after_of (op.ChannelAccess set) shown = after_channel_access set shown
after_of (op.BiosAttribute set) shown = after_attribute set shown
after_of (op.LanParam set) shown = after_lan_param set shown
