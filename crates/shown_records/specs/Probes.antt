-- An operation that changes all that the Get of a record shows, of each kind: what takes it back sets the record to what the Get shows.
use Rattle.std.specs.Prelude.{ℕ, ◌+◌, min, List, [], None, false, slice_index, refl}
use Rattle.record_base.specs.declared.bios_attribute.SetBiosAttribute.{SetBiosAttribute}
use Rattle.record_base.specs.declared.boot_param.BootChange.{BootChange}
use Rattle.record_base.specs.declared.boot_param.BootChange.TheVariants as boot
use Rattle.record_base.specs.declared.boot_param.BootParameter.{BootParameter}
use Rattle.record_base.specs.declared.boot_param.BootParameter.TheVariants as parameter
use Rattle.record_base.specs.declared.boot_param.SetBootParam.{SetBootParam}
use Rattle.record_base.specs.declared.channel.ChannelChange.TheVariants.{Both}
use Rattle.record_base.specs.declared.channel.SetChannelAccess.{SetChannelAccess}
use Rattle.record_base.specs.declared.channel.StoredAccess.{StoredAccess}
use Rattle.record_base.specs.declared.event_enable.EventChange.TheVariants.{Disable}
use Rattle.record_base.specs.declared.event_enable.SetEventEnable.{SetEventEnable}
use Rattle.record_base.specs.declared.hysteresis.SetHysteresis.{SetHysteresis}
use Rattle.record_base.specs.declared.key.Key.{Key}
use Rattle.record_base.specs.declared.key.Key.TheVariants as key
use Rattle.record_base.specs.declared.lan_parameter.LanChange.{LanChange}
use Rattle.record_base.specs.declared.lan_parameter.LanChange.TheVariants as lan
use Rattle.record_base.specs.declared.lan_parameter.LanParameter.{LanParameter}
use Rattle.record_base.specs.declared.lan_parameter.LanParameter.TheVariants.{Address, AddressSource, Vlan}
use Rattle.record_base.specs.declared.lan_parameter.ParameterOnChannel.{ParameterOnChannel}
use Rattle.record_base.specs.declared.lan_parameter.SetLanParam.{SetLanParam}
use Rattle.record_base.specs.declared.numeric_effecter.NumericBytes.TheVariants.{One}
use Rattle.record_base.specs.declared.numeric_effecter.SetNumericEffecter.{SetNumericEffecter}
use Rattle.record_base.specs.declared.op.Op.{Op}
use Rattle.record_base.specs.declared.op.Op.TheVariants as op
use Rattle.record_base.specs.declared.state_effecter.SetStateEffecter.{SetStateEffecter}
use Rattle.record_base.specs.declared.thresholds.SetThresholds.{SetThresholds}
use Rattle.record_base.specs.declared.user.SetUserAccess.{SetUserAccess}
use Rattle.record_base.specs.declared.user.SetUserName.{SetUserName}
use Rattle.record_base.specs.declared.user.UserOnChannel.{UserOnChannel}
use Rattle.record_base.specs.BiosAttribute.{setting}
use Rattle.record_base.specs.BoardSizes.{most_state_fields}
use Rattle.record_base.specs.Numbers.{UserNumber, low_bits}
use Rattle.record_base.specs.Requests.{bytes_at}
use Rattle.record_base.specs.UserSizes.{user_name_size}
use Rattle.sensor_recs.specs.Thresholds.{zeros}
use Rattle.shown_records.specs.ProbeLaws.{few_set}
pub use Rattle.shown_records.specs.ProbeLaws.{set_fields}

-- each threshold that can be read
abbrev pub probe_thresholds : (sensor : ℕ) → List ℕ → SetThresholds
probe_thresholds sensor shown = record { sensor = sensor; mask = slice_index shown 0; values = zeros; six = refl }

abbrev pub probe_hysteresis : (sensor : ℕ) → SetHysteresis
probe_hysteresis sensor = record { sensor = sensor; positive = 0; negative = 0 }

-- it disables all events
abbrev pub probe_events : (sensor : ℕ) → SetEventEnable
probe_events sensor = record {
  sensor = sensor;
  messages = false;
  scanning = false;
  change = Disable (record { assertions = 0xFFFF; deassertions = 0xFFFF });
}

-- all data of a boot parameter
abbrev pub probe_boot_change : BootParameter → BootChange
probe_boot_change parameter.ValidBitClearing = boot.ValidBitClearing 0
probe_boot_change parameter.InfoAcknowledge = boot.InfoAcknowledge (record { mask = 0xFF; bits = 0 })
probe_boot_change parameter.Flags = boot.Flags (record { validity = 0; device = 0; console = 0; overrides = 0; instance = 0 })

abbrev pub probe_boot : BootParameter → SetBootParam
probe_boot parameter = record { invalid = false; change = probe_boot_change parameter }

abbrev pub probe_numeric : (effecter : ℕ) → SetNumericEffecter
probe_numeric effecter = record { effecter = effecter; size = 0; value = One 0 }

-- each field that the Get shows
abbrev pub probe_states : (effecter : ℕ) → List ℕ → SetStateEffecter
probe_states effecter shown = record {
  effecter = effecter;
  changes = set_fields (min (slice_index shown 0) most_state_fields);
  few = few_set (slice_index shown 0);
}

abbrev pub probe_name : UserNumber → SetUserName
probe_name user = record { user = user.number; name = bytes_at user_name_size [] 0; sized = refl }

-- bits 6:4, as bit 7 says, and the limit
abbrev pub probe_access : UserOnChannel → SetUserAccess
probe_access on = record { first = 128 + on.channel.number; user = on.user.number; limit = 0; session_limit = None }

abbrev pub probe_channel : StoredAccess → SetChannelAccess
probe_channel at = record { channel = at.channel; store = at.store; change = Both (low_bits 6 0) (low_bits 6 0) }

abbrev pub probe_attribute : (handle : ℕ) → SetBiosAttribute
probe_attribute handle = setting handle 0 []

abbrev pub probe_lan_change : LanParameter → LanChange
probe_lan_change (Address which) = lan.Address which (record { first = 0; second = 0; third = 0; fourth = 0 })
probe_lan_change AddressSource = lan.AddressSource 0
probe_lan_change Vlan = lan.Vlan (record { low = 0; high = 0 })

abbrev pub probe_lan : ParameterOnChannel → SetLanParam
probe_lan on = record { channel = on.channel; change = probe_lan_change on.parameter }

abbrev pub probe : Key → List ℕ → Op
probe (key.Thresholds sensor) shown = op.Thresholds (probe_thresholds sensor shown)
probe (key.Hysteresis sensor) shown = op.Hysteresis (probe_hysteresis sensor)
probe (key.EventEnable sensor) shown = op.EventEnable (probe_events sensor)
probe key.PowerPolicy shown = op.PowerPolicy (record { policy = 0 })
probe key.Watchdog shown = op.Watchdog (record { timer_use = 0; actions = 0; pre_timeout = 0; flags_to_clear = 0; initial = 0 })
probe key.GlobalEnables shown = op.GlobalEnables (record { byte = 0 })
probe (key.BootParam parameter) shown = op.BootParam (probe_boot parameter)
probe (key.NumericEffecter effecter) shown = op.NumericEffecter (probe_numeric effecter)
probe (key.StateEffecter effecter) shown = op.StateEffecter (probe_states effecter shown)
probe (key.UserName user) shown = op.UserName (probe_name user)
probe (key.UserAccess on) shown = op.UserAccess (probe_access on)
probe (key.ChannelAccess at) shown = op.ChannelAccess (probe_channel at)
probe (key.BiosAttribute handle) shown = op.BiosAttribute (probe_attribute handle)
probe (key.LanParam on) shown = op.LanParam (probe_lan on)
