-- The first values of a board's records.
use Rattle.std.specs.Prelude.{ℕ, List, [], ◌∷◌}
use Rattle.record_base.specs.declared.power_policy.PowerPolicy.{PowerPolicy}
use Rattle.record_base.specs.declared.watchdog.Watchdog.{Watchdog}
use Rattle.record_base.specs.declared.global_enables.GlobalEnables.{GlobalEnables}
use Rattle.record_base.specs.declared.numeric_effecter.NumericEffecter.{NumericEffecter}
use Rattle.record_base.specs.declared.channel.ChannelAccess.{ChannelAccess}
use Rattle.record_base.specs.declared.channel.StoredAccess.{StoredAccess}
use Rattle.record_base.specs.Numbers.{ChannelNumber}
use Rattle.record_base.specs.declared.channel.AccessStore.{AccessStore}
use Rattle.record_base.specs.Watchdog.{watchdog_value}
use Rattle.record_base.specs.declared.boot_param.BootOptions.{BootOptions}
use Rattle.record_base.specs.declared.boot_param.BootParameter.{BootParameter}
use Rattle.record_base.specs.declared.boot_param.BootParameter.TheVariants.{ValidBitClearing, InfoAcknowledge, Flags}
use Rattle.record_base.specs.BootParam.{flag_bytes}
use Rattle.record_base.specs.NumericSize.{bytes_of}

-- the values of the parts that a board has once
abbrev pub policy_value : PowerPolicy → List ℕ
policy_value policy = policy.number ∷ []

abbrev pub settings_value : Watchdog → List ℕ
settings_value watchdog = watchdog_value watchdog.timer_use watchdog.actions watchdog.pre_timeout watchdog.initial

abbrev pub enables_value : GlobalEnables → List ℕ
enables_value enables = enables.byte ∷ []

-- the value of a numeric effecter
abbrev pub number_value : NumericEffecter → List ℕ
number_value effecter = bytes_of effecter.range.size effecter.current

-- the access of a channel in one of its stores, and its value
abbrev pub stored : ChannelNumber → AccessStore → StoredAccess
stored channel store = record { channel = channel; store = store }

abbrev pub access_value : ChannelAccess → List ℕ
access_value channel = channel.access ∷ channel.limit ∷ []

-- the first value of each boot parameter: no mark is set
abbrev pub boot_value : BootOptions → BootParameter → List ℕ
boot_value boot ValidBitClearing = 0 ∷ boot.valid_bit_clearing ∷ []
boot_value boot InfoAcknowledge = 0 ∷ boot.info_acknowledge ∷ []
boot_value boot Flags = 0 ∷ flag_bytes boot.flags
