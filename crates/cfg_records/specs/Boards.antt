-- The records that a board file begins with.
use Rattle.std.specs.Prelude.{List, [], ◌∷◌, ◌++◌, map}
use Rattle.record_base.specs.declared.key.Key.TheVariants as key
use Rattle.record_base.specs.declared.channel.AccessStore.TheVariants.{NonVolatile, Volatile}
use Rattle.cfg_records.specs.declared.board_file.BoardFile.{BoardFile}
use Rattle.record_base.specs.declared.boot_param.BootParameter.TheVariants.{ValidBitClearing, InfoAcknowledge, Flags}
use Rattle.record_base.specs.StateEffecter.{state_value}
use Rattle.record_base.specs.Attribute.{attribute_value}
use Rattle.cfg_records.specs.Records.{Pair}
use Rattle.cfg_records.specs.LanBoards.{lan_kinds}
use Rattle.record_base.specs.declared.sensor.Sensor.{Sensor}
use Rattle.record_base.specs.Sensor as sensor
use Rattle.record_base.specs.Values.{policy_value, settings_value, enables_value, number_value, stored, access_value, boot_value}

-- lists of pairs as one, each behind those before it
abbrev pub joined : List Pair → List (List Pair) → List Pair
joined before [] = before
joined before (pairs ∷ more) = joined (before ++ pairs) more

-- the keys of each kind of record that a sensor has, with their values, in the sensors' order: a line for each kind
abbrev pub sensor_kinds : List Sensor → List (List Pair)
sensor_kinds sensors =
    map (λ s. (key.Thresholds s.number, s.thresholds.values)) sensors
    ∷ map (λ s. (key.Hysteresis s.number, sensor.Hysteresis.hysteresis_value s.hysteresis)) sensors
    ∷ map (λ s. (key.EventEnable s.number, sensor.EventEnable.event_value s.events.messages s.events.scanning s.events.enabled)) sensors
    ∷ []

-- the keys of each kind of record that an effecter has, with their values, in the effecters' order: a line for each kind
abbrev pub effecter_kinds : BoardFile → List (List Pair)
effecter_kinds file =
    map (λ e. (key.NumericEffecter e.id, number_value e)) file.numeric_effecters.items
    ∷ map (λ e. (key.StateEffecter e.id, state_value e.fields)) file.state_effecters.items
    ∷ []

-- the same of the records that a user or a channel has: channels in their stores, one store after the other
abbrev pub access_kinds : BoardFile → List (List Pair)
access_kinds file =
    map (λ u. (key.UserName u.number, u.name)) file.users.items
    ∷ map (λ a. (key.UserAccess a.on, a.byte ∷ [])) file.user_accesses.items
    ∷ map (λ c. (key.ChannelAccess (stored c.number NonVolatile), access_value c.non_volatile)) file.channels.items
    ∷ map (λ c. (key.ChannelAccess (stored c.number Volatile), access_value c.volatile)) file.channels.items
    ∷ []

-- the same of all items
abbrev pub item_kinds : BoardFile → List (List Pair)
item_kinds file = sensor_kinds file.sensors.items ++ effecter_kinds file ++ access_kinds file

-- the keys of its attributes with their values
abbrev pub attribute_pairs : BoardFile → List Pair
attribute_pairs file = map (λ a. (key.BiosAttribute a.handle, attribute_value a)) file.attributes.items

-- the keys of each kind with their values: a line for each record that a board has once, and one for its attributes; behind them those of LAN parameters
abbrev pub kinds_of : BoardFile → List (List Pair)
kinds_of file =
    item_kinds file
    ++ ((key.PowerPolicy, policy_value file.policy) ∷ [])
    ∷ ((key.Watchdog, settings_value file.watchdog) ∷ [])
    ∷ ((key.GlobalEnables, enables_value file.enables) ∷ [])
    ∷ ((key.BootParam ValidBitClearing, boot_value file.boot ValidBitClearing) ∷ [])
    ∷ ((key.BootParam InfoAcknowledge, boot_value file.boot InfoAcknowledge) ∷ [])
    ∷ ((key.BootParam Flags, boot_value file.boot Flags) ∷ [])
    ∷ attribute_pairs file
    ∷ lan_kinds file

-- the file's pairs, kind after kind
abbrev pub pairs_of : BoardFile → List Pair
pairs_of file = joined [] (kinds_of file)
