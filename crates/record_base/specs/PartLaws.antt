-- At most one proof says that a part of a board file is in its range.
use Rattle.std.specs.Prelude.{ℕ, List}
use Rattle.std.proofs.Props.{props}
use Rattle.record_base.specs.declared.threshold_masks.ThresholdMasks.{ThresholdMasks}
use Rattle.record_base.specs.Sensor.Thresholds.{IsThresholds}
use Rattle.record_base.specs.Sensor.EventEnable.{IsEventEnable}
use Rattle.record_base.specs.PowerPolicy.{IsPowerPolicy}
use Rattle.record_base.specs.Watchdog.{IsWatchdog}
use Rattle.record_base.specs.GlobalEnables.{AreGlobalEnables}
use Rattle.record_base.specs.declared.boot_param.BootParameter.{BootParameter}
use Rattle.record_base.specs.declared.boot_param.BootParameter.TheVariants.{ValidBitClearing, InfoAcknowledge, Flags}
use Rattle.record_base.specs.BootParam.{IsBootData, IsBootParam}
use Rattle.record_base.specs.declared.numeric_range.NumericRange.{NumericRange}
use Rattle.record_base.specs.NumericEffecter.{IsNumeric}
use Rattle.record_base.specs.UserAccess.{IsUserAccess}
use Rattle.record_base.specs.ChannelAccess.{IsChannelAccess}

pub IsThresholds-prop : (masks : ThresholdMasks) (value : List ℕ) → IsProp (IsThresholds masks value)
IsThresholds-prop masks value = hlevel props

pub IsEventEnable-prop : (supported : ℕ) (value : List ℕ) → IsProp (IsEventEnable supported value)
IsEventEnable-prop supported value = hlevel props

pub IsPowerPolicy-prop : (value : List ℕ) → IsProp (IsPowerPolicy value)
IsPowerPolicy-prop value = hlevel props

pub IsWatchdog-prop : (value : List ℕ) → IsProp (IsWatchdog value)
IsWatchdog-prop value = hlevel props

pub AreGlobalEnables-prop : (value : List ℕ) → IsProp (AreGlobalEnables value)
AreGlobalEnables-prop value = hlevel props

IsBootData-prop : (parameter : BootParameter) (first : ℕ) → IsProp (IsBootData parameter first)
IsBootData-prop ValidBitClearing first = hlevel props
IsBootData-prop InfoAcknowledge first = hlevel props
IsBootData-prop Flags first = hlevel props

pub IsBootParam-prop : (parameter : BootParameter) (value : List ℕ) → IsProp (IsBootParam parameter value)
IsBootParam-prop parameter value = hlevel (props, IsBootData-prop)

pub IsNumeric-prop : (range : NumericRange) (value : List ℕ) → IsProp (IsNumeric range value)
IsNumeric-prop range value = hlevel props

pub IsUserAccess-prop : (value : List ℕ) → IsProp (IsUserAccess value)
IsUserAccess-prop value = hlevel props

pub IsChannelAccess-prop : (value : List ℕ) → IsProp (IsChannelAccess value)
IsChannelAccess-prop value = hlevel props
