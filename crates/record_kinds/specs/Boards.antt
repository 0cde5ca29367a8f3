-- The parts of a board file under a number and on a channel.
use Rattle.std.specs.Prelude.{ℕ, List, Bool, Option, None, find, ◌==◌, ◌&&◌}
use Rattle.std.specs.List.{list_any}
use Rattle.record_base.specs.declared.sensor.Sensor.{Sensor}
use Rattle.record_base.specs.declared.numeric_effecter.NumericEffecter.{NumericEffecter}
use Rattle.record_base.specs.declared.state_effecter.StateEffecter.{StateEffecter}
use Rattle.record_base.specs.declared.user.User.{User}
use Rattle.record_base.specs.declared.user.UserAccess.{UserAccess}
use Rattle.record_base.specs.declared.user.UserOnChannel.{UserOnChannel}
use Rattle.record_base.specs.declared.channel.Channel.{Channel}
use Rattle.record_base.specs.declared.channel.AccessStore.{AccessStore}
use Rattle.record_base.specs.declared.channel.AccessStore.TheVariants.{NonVolatile, Volatile, Neither}
use Rattle.record_base.specs.declared.channel.StoredAccess.{StoredAccess}
use Rattle.record_base.specs.declared.attribute.Attribute.{Attribute}
use Rattle.cfg_records.specs.declared.board_file.BoardFile.{BoardFile}

-- the sensor of this number
abbrev pub sensor_at : List Sensor → ℕ → Option Sensor
sensor_at sensors number = find (λ s. s.number == number) sensors

-- the numeric effecter of this id
abbrev pub numeric_at : List NumericEffecter → ℕ → Option NumericEffecter
numeric_at effecters id = find (λ e. e.id == id) effecters

-- the state effecter of this id
abbrev pub state_at : List StateEffecter → ℕ → Option StateEffecter
state_at effecters id = find (λ e. e.id == id) effecters

-- the user of this number
abbrev pub user_at : List User → ℕ → Option User
user_at users number = find (λ u. u.number.number == number) users

-- the access of this user on this channel
abbrev pub is_on : UserOnChannel → UserOnChannel → Bool
is_on place other = (place.channel.number == other.channel.number) && (place.user.number == other.user.number)

abbrev pub access_at : List UserAccess → UserOnChannel → Option UserAccess
access_at accesses on = find (λ a. is_on a.on on) accesses

-- the channel of this number, if it has sessions
abbrev pub channel_at : List Channel → ℕ → Option Channel
channel_at channels number = find (λ c. c.number.number == number) channels

-- the board file has a channel of this number without sessions
abbrev pub is_sessionless : BoardFile → ℕ → Bool
is_sessionless file number = list_any (λ c. c.number == number) file.sessionless.items

-- the channel whose access has this name
abbrev pub in_store_of : AccessStore → Option Channel → Option Channel
in_store_of NonVolatile channel = channel
in_store_of Volatile channel = channel
in_store_of Neither channel = None

abbrev pub stored_at : BoardFile → StoredAccess → Option Channel
stored_at file at = in_store_of at.store (channel_at file.channels.items at.channel.number)

-- the attribute of this handle
abbrev pub attribute_at : List Attribute → ℕ → Option Attribute
attribute_at attributes handle = find (λ a. a.handle == handle) attributes
