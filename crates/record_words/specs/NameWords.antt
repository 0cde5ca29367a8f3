-- The names of records, in words: a line for each kind.
use Rattle.std.specs.Prelude.{ℕ, List, ◌++◌, codes}
use Rattle.std.specs.Fmt.{decimal}
use Rattle.record_base.specs.declared.key.Key.{Key}
use Rattle.record_base.specs.declared.key.Key.TheVariants as key
use Rattle.record_base.specs.declared.boot_param.BootParameter.{BootParameter}
use Rattle.record_base.specs.declared.boot_param.BootParameter.TheVariants.{ValidBitClearing, InfoAcknowledge, Flags}
use Rattle.record_base.specs.declared.channel.AccessStore.{AccessStore}
use Rattle.record_base.specs.declared.channel.AccessStore.TheVariants.{NonVolatile, Volatile, Neither}
use Rattle.record_base.specs.Lan.{lan_selector}

-- the name of a boot parameter
abbrev pub boot_name : BootParameter → List ℕ
boot_name ValidBitClearing = codes "boot flag valid bit clearing"
boot_name InfoAcknowledge = codes "boot info acknowledge"
boot_name Flags = codes "boot flags"

-- the word for a store
abbrev pub store_words : AccessStore → List ℕ
store_words NonVolatile = codes "non-volatile"
store_words Volatile = codes "volatile"
store_words Neither = codes "unnamed"

-- the name of a record
abbrev pub record_words : Key → List ℕ
record_words (key.Thresholds sensor) = codes "sensor " ++ (decimal sensor ++ codes " thresholds")
record_words (key.Hysteresis sensor) = codes "sensor " ++ (decimal sensor ++ codes " hysteresis")
record_words (key.EventEnable sensor) = codes "sensor " ++ (decimal sensor ++ codes " event enable")
record_words key.PowerPolicy = codes "power restore policy"
record_words key.Watchdog = codes "watchdog timer"
record_words key.GlobalEnables = codes "BMC global enables"
record_words (key.BootParam parameter) = boot_name parameter
record_words (key.NumericEffecter effecter) = codes "numeric effecter " ++ decimal effecter
record_words (key.StateEffecter effecter) = codes "state effecter " ++ decimal effecter
record_words (key.UserName user) = codes "user " ++ (decimal user.number ++ codes " name")
record_words (key.UserAccess on) = codes "user " ++ (decimal on.user.number ++ (codes " access on channel " ++ decimal on.channel.number))
record_words (key.ChannelAccess stored) = codes "channel " ++ (decimal stored.channel.number ++ (codes " " ++ (store_words stored.store ++ codes " access")))
record_words (key.BiosAttribute handle) = codes "attribute " ++ decimal handle
record_words (key.LanParam on) = codes "LAN parameter " ++ (decimal (lan_selector on.parameter) ++ (codes " of channel " ++ decimal on.channel.number))

-- what the names of a record's fields stand behind: its sensor, user, channel, effecter or attribute, or the record itself
abbrev pub subject_words : Key → List ℕ
subject_words (key.Thresholds sensor) = codes "sensor " ++ decimal sensor
subject_words (key.Hysteresis sensor) = codes "sensor " ++ decimal sensor
subject_words (key.EventEnable sensor) = codes "sensor " ++ decimal sensor
subject_words key.PowerPolicy = codes "power restore policy"
subject_words key.Watchdog = codes "watchdog timer"
subject_words key.GlobalEnables = codes "BMC global enables"
subject_words (key.BootParam parameter) = codes "boot"
subject_words (key.NumericEffecter effecter) = codes "numeric effecter " ++ decimal effecter
subject_words (key.StateEffecter effecter) = codes "state effecter " ++ decimal effecter
subject_words (key.UserName user) = codes "user " ++ decimal user.number
subject_words (key.UserAccess on) = codes "user " ++ (decimal on.user.number ++ (codes " on channel " ++ decimal on.channel.number))
subject_words (key.ChannelAccess stored) = codes "channel " ++ (decimal stored.channel.number ++ (codes " " ++ store_words stored.store))
subject_words (key.BiosAttribute handle) = codes "attribute " ++ decimal handle
subject_words (key.LanParam on) = codes "channel " ++ decimal on.channel.number
