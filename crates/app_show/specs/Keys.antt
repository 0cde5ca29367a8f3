-- Which records a controller is asked for.
use Rattle.std.specs.Prelude.{ℕ, suc, ◌-◌, List, [], ◌∷◌, ◌++◌, map}
use Rattle.std.specs.List.{flat_map, range_with_len}
use Rattle.record_base.specs.declared.boot_param.BootParameter.TheVariants as boot
use Rattle.record_base.specs.declared.channel.AccessStore.{AccessStore}
use Rattle.record_base.specs.declared.channel.AccessStore.TheVariants.{NonVolatile, Volatile}
use Rattle.record_base.specs.declared.key.Key.{Key}
use Rattle.record_base.specs.declared.key.Key.TheVariants as key
use Rattle.record_base.specs.declared.lan_parameter.LanAddress.TheVariants.{Ip, SubnetMask, DefaultGateway}
use Rattle.record_base.specs.declared.lan_parameter.LanParameter.{LanParameter}
use Rattle.record_base.specs.declared.lan_parameter.LanParameter.TheVariants.{Address, AddressSource, Vlan}
use Rattle.record_base.specs.Numbers.{ChannelNumber, channel_in, user_in, user_on}
use Rattle.record_base.specs.Values.{stored}
use Rattle.app_show.specs.declared.keys.IdRange.{IdRange}

-- those of the controller itself
abbrev pub own_keys : List Key
own_keys =
    key.PowerPolicy ∷ key.Watchdog ∷ key.GlobalEnables ∷ key.BootParam boot.ValidBitClearing ∷ key.BootParam boot.InfoAcknowledge ∷ key.BootParam boot.Flags ∷ []

-- those of a sensor, whose number is below FFh (IPMI 2.0)
abbrev pub sensor_keys : (sensor : ℕ) → List Key
sensor_keys sensor = key.Thresholds sensor ∷ key.Hysteresis sensor ∷ key.EventEnable sensor ∷ []

abbrev pub sensor_count : ℕ
sensor_count = 255

-- those of a channel: its access in each of its stores, and the LAN parameters that can be set
abbrev pub stored_key : ChannelNumber → AccessStore → Key
stored_key channel store = key.ChannelAccess (stored channel store)

abbrev pub lan_key : ChannelNumber → LanParameter → Key
lan_key channel parameter = key.LanParam (record { channel = channel; parameter = parameter })

abbrev pub channel_keys : (channel : ℕ) → List Key
channel_keys channel =
    stored_key (channel_in channel) NonVolatile ∷ stored_key (channel_in channel) Volatile ∷ lan_key (channel_in channel) (Address Ip) ∷ lan_key (channel_in channel) AddressSource
    ∷ lan_key (channel_in channel) (Address SubnetMask) ∷ lan_key (channel_in channel) (Address DefaultGateway) ∷ lan_key (channel_in channel) Vlan ∷ []

-- the channels that a controller may have (IPMI 2.0, table 6-1), but for Eh, over which it is asked
abbrev pub channels : List ℕ
channels = 0 ∷ 1 ∷ 2 ∷ 3 ∷ 4 ∷ 5 ∷ 6 ∷ 7 ∷ 8 ∷ 9 ∷ 10 ∷ 11 ∷ 15 ∷ []

-- those that go by such numbers
abbrev pub numbered_keys : List Key
numbered_keys = own_keys ++ flat_map sensor_keys (range_with_len 0 sensor_count) ++ flat_map channel_keys channels

-- what a user may do on a channel, and each user from the second on, where there are so many
abbrev pub access_key : (channel user : ℕ) → Key
access_key channel user = key.UserAccess (user_on channel user)

abbrev pub later_access_keys : (channel users : ℕ) → List Key
later_access_keys channel users = map (access_key channel) (range_with_len 2 (users - 1))

-- the names of so many users
abbrev pub user_key : (user : ℕ) → Key
user_key user = key.UserName (user_in user)

abbrev pub name_keys : (users : ℕ) → List Key
name_keys users = map user_key (range_with_len 1 users)

-- those of the effecters of these ids: each may be a numeric one or a state effecter
abbrev pub id_keys : (id : ℕ) → List Key
id_keys id = key.NumericEffecter id ∷ key.StateEffecter id ∷ []

abbrev pub ids_keys : IdRange → List Key
ids_keys ids = flat_map id_keys (range_with_len ids.first (suc ids.last - ids.first))

abbrev pub effecter_keys : List IdRange → List Key
effecter_keys effecters = flat_map ids_keys effecters
