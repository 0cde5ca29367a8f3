-- The board that a tree holds.
use Rattle.std.specs.Prelude.{◌≡◌, ◌+◌, ℕ, Bool, not, if◌then◌else◌, List, [], ◌∷◌, ◌++◌, map, filter, Some, Result, Ok, Err, MatchOption}
use Rattle.std.specs.List.{AllZip}
use Rattle.toml.specs.Data.{Data, Members}
use Rattle.toml.specs.Parse.{parse_document}
use Rattle.record_base.specs.Sensor.EventEnable.{flags_byte}
use Rattle.record_base.specs.BootParam.{flag_bytes}
use Rattle.record_base.specs.NumericSize.{code_of}
use Rattle.record_base.specs.declared.numeric_size.NumericSize.{NumericSize}
use Rattle.record_base.specs.declared.numeric_range.NumericRange.{NumericRange}
use Rattle.record_base.specs.declared.numeric_effecter.NumericEffecter.{NumericEffecter}
use Rattle.record_base.specs.declared.state_effecter.StateField.{StateField}
use Rattle.record_base.specs.declared.state_effecter.StateEffecter.{StateEffecter}
use Rattle.record_base.specs.declared.boot_param.BootOptions.{BootOptions}
use Rattle.record_base.specs.declared.device.Device.{Device}
use Rattle.record_base.specs.declared.event_enable.EventEnable.{EventEnable}
use Rattle.record_base.specs.declared.sensor.Sensor.{Sensor}
use Rattle.record_base.specs.declared.channel.Channel.{Channel}
use Rattle.record_base.specs.Numbers.{ChannelNumber}
use Rattle.record_base.specs.declared.user.User.{User}
use Rattle.record_base.specs.declared.user.UserAccess.{UserAccess}
use Rattle.cfg_records.specs.declared.board_file.BoardFile.{BoardFile}
use Rattle.text_fields.specs.declared.field.Field.{Field}
use Rattle.text_fields.specs.declared.field.Field.TheVariants as field
use Rattle.text_board.specs.declared.board.OwnParts.{OwnParts}
use Rattle.text_board.specs.declared.fault.FileFault.{FileFault}
use Rattle.text_board.specs.declared.fault.FileFault.TheVariants as file
use Rattle.text_fields.specs.Trees.{members, natural, IsNaturalIn, number_in, table_of, table_in, members_in, or_none, HasNumber, HasNumbers}
use Rattle.text_fields.specs.Numeric.{sized_in}
use Rattle.text_fields.specs.Users.{name_of}
use Rattle.text_fields.specs.Ranges.{record_in, or_zero, settings}
use Rattle.text_board.specs.AttributeItems.{IsAttributeIn}
use Rattle.text_board.specs.LanItems.{lans_in, IsLanIn}
use Rattle.text_board.specs.Faults.{has_sessions, board_faults}
use Rattle.text_fields.specs.Faults.{first}

-- the table holds what a board says of itself
pub record HoldsDevice (tree : Members) (device : Device) : Type 0 where
  pub id : HasNumber field.Id tree device.id
  pub revision : HasNumber field.Revision tree device.revision
  pub major : HasNumber field.Major tree device.major
  pub minor : HasNumber field.Minor tree device.minor.byte
  pub support : HasNumber field.Support tree device.support
  pub manufacturer : HasNumber field.Manufacturer tree device.manufacturer.number
  pub product : HasNumber field.Product tree device.product

-- the table holds a sensor's events
pub record HoldsEvents (tree : Members) (events : EventEnable) : Type 0 where
  pub supported : HasNumber field.Supported tree events.supported
  pub flags : HasNumber field.Flags tree (flags_byte events.messages events.scanning)
  pub assertions : HasNumber field.Assert tree events.enabled.assertions
  pub deassertions : HasNumber field.Deassert tree events.enabled.deassertions

-- the table holds a sensor
pub record HoldsSensor (tree : Members) (sensor : Sensor) : Type 0 where
  pub numbered : HasNumber field.Number tree sensor.number
  pub measures : HasNumber field.Type tree sensor.sensor_type
  pub readable : HasNumber field.Readable tree sensor.thresholds.masks.readable
  pub settable : HasNumber field.Settable tree sensor.thresholds.masks.settable
  pub values : HasNumbers field.Thresholds tree sensor.thresholds.values
  pub hysteresis : HasNumbers field.Hysteresis tree (sensor.hysteresis.positive ∷ sensor.hysteresis.negative ∷ [])
  pub events : HoldsEvents tree sensor.events

-- the member of an array says a sensor data record
abbrev pub IsRecordIn : Data → List ℕ → Type 0
IsRecordIn d bytes = record_in d ≡ Some bytes

-- the member of an array holds a sensor
abbrev pub IsSensorIn : Data → Sensor → Type 0
IsSensorIn d sensor = HoldsSensor (table_of d) sensor

-- ---- state effecters

-- the number of an operational state: enabled without a pending update, or disabled
abbrev pub operational : Bool → ℕ
operational enabled = if enabled then 1 else 2

-- the member of an array lists the states that a field can be in
abbrev pub IsFieldIn : Data → StateField → Type 0
IsFieldIn d f = AllZip IsNaturalIn (or_none (members d)) f.allowed

-- the member of an array is the state that a field is in
abbrev pub IsPresentIn : Data → StateField → Type 0
IsPresentIn d f = IsNaturalIn d f.current

-- the table holds a state effecter
pub record HoldsState (tree : Members) (effecter : StateEffecter) : Type 0 where
  pub numbered : HasNumber field.Id tree effecter.id
  pub state : HasNumber field.Operational tree (operational effecter.enabled)
  pub fields : AllZip IsFieldIn (members_in field.States tree) effecter.fields
  pub current : AllZip IsPresentIn (members_in field.Current tree) effecter.fields

-- the member of an array holds a state effecter
abbrev pub IsStateIn : Data → StateEffecter → Type 0
IsStateIn d effecter = HoldsState (table_of d) effecter

-- ---- numeric effecters

-- the table has the number of this size, by its bits, in the field
abbrev pub HasSized : NumericSize → Field → Members → ℕ → Type 0
HasSized size named tree n = sized_in size named tree ≡ Some n

-- the table holds the numbers that a numeric effecter can be set to
pub record HoldsRange (tree : Members) (range : NumericRange) : Type 0 where
  pub size : HasNumber field.Size tree (code_of range.size)
  pub lower : HasSized range.size field.Lower tree range.lower
  pub upper : HasSized range.size field.Upper tree range.upper

-- the table holds a numeric effecter
pub record HoldsNumeric (tree : Members) (effecter : NumericEffecter) : Type 0 where
  pub numbered : HasNumber field.Id tree effecter.id
  pub state : HasNumber field.Operational tree (operational effecter.enabled)
  pub range : HoldsRange tree effecter.range
  pub current : HasSized effecter.range.size field.Current tree effecter.current

-- the member of an array holds a numeric effecter
abbrev pub IsNumericIn : Data → NumericEffecter → Type 0
IsNumericIn d effecter = HoldsNumeric (table_of d) effecter

-- ---- users

-- the member of an array says a user's name
abbrev pub IsNameIn : Data → User → Type 0
IsNameIn d user = name_of d ≡ Some user.name

-- ---- channels

-- the member of an array has a channel's number
abbrev pub IsNumberIn : Data → ChannelNumber → Type 0
IsNumberIn d channel = HasNumber field.Number (table_of d) channel.number

-- the table holds a channel with sessions
pub record HoldsChannel (tree : Members) (channel : Channel) : Type 0 where
  pub numbered : HasNumber field.Number tree channel.number.number
  pub access : HasNumbers field.Access tree (channel.non_volatile.access ∷ channel.volatile.access ∷ [])
  pub limit : HasNumbers field.Limit tree (channel.non_volatile.limit ∷ channel.volatile.limit ∷ [])

-- the member of an array holds a channel with sessions
abbrev pub IsChannelIn : Data → Channel → Type 0
IsChannelIn d channel = HoldsChannel (table_of d) channel

-- the member of an array has sessions
abbrev pub serves : Data → Bool
serves d = has_sessions (table_of d)

-- the members that have sessions, and those that have none
abbrev pub with_sessions : List Data → List Data
with_sessions ds = filter serves ds

abbrev pub without_sessions : List Data → List Data
without_sessions ds = filter (λ d. not (serves d)) ds

-- what a user may do: the channel's number, the user's, and the byte
abbrev pub parts_of : UserAccess → ℕ × (ℕ × ℕ)
parts_of access = (access.on.channel.number, (access.on.user.number, access.byte))

-- what the users of the numbers from this one on may do on a channel
abbrev pub on_channel : ℕ → ℕ → List Data → List (ℕ × (ℕ × ℕ))
on_channel channel user [] = []
on_channel channel user (d ∷ ds) = (channel, (user, or_zero (natural d))) ∷ on_channel channel (user + 1) ds

-- a channel's number
abbrev pub channel_of : Data → ℕ
channel_of d = or_zero (number_in field.Number (table_of d))

-- what users may do on these channels
abbrev pub accesses_in : List Data → List (ℕ × (ℕ × ℕ))
accesses_in [] = []
accesses_in (d ∷ ds) = on_channel (channel_of d) 1 (members_in field.Users (table_of d)) ++ accesses_in ds

-- the members of an array hold these channels, with sessions and without, and what users may do on the former
pub record HoldChannels (ds : List Data) (channels : List Channel) (sessionless : List ChannelNumber) (accesses : List UserAccess) : Type 0 where
  pub with : AllZip IsChannelIn (with_sessions ds) channels
  pub without : AllZip IsNumberIn (without_sessions ds) sessionless
  pub rights : map parts_of accesses ≡ accesses_in (with_sessions ds)

-- ---- boards

-- the tree holds boot options
pub record HoldsBoot (tree : Members) (boot : BootOptions) : Type 0 where
  pub clearing : HasNumber field.Boot3 tree boot.valid_bit_clearing
  pub acknowledge : HasNumber field.Boot4 tree boot.info_acknowledge
  pub flags : HasNumbers field.Boot5 tree (flag_bytes boot.flags)

-- what a file's own fields and `[device]` say is in the tree
pub record HoldsOwn (tree : Members) (own : OwnParts) : Type 0 where
  pub terminus : HasNumber field.Tid tree own.tid
  pub clock : HasNumber field.Clock tree own.clock
  pub log : HasNumber field.Log tree own.log.records
  pub enables : HasNumber field.Enables tree own.enables.byte
  pub policy : HasNumber field.Policy tree own.policy.number
  pub watchdog : HasNumbers field.Watchdog tree (settings own.watchdog)
  pub sdr : AllZip IsRecordIn (members_in field.Sdr tree) own.sdr.items
  pub users : AllZip IsNameIn (members_in field.Users tree) own.users.items
  pub boot : HoldsBoot tree own.boot
  pub device : HoldsDevice (table_in field.Device tree) own.device

-- the tree holds a board
pub record HoldsBoard (tree : Members) (board : BoardFile) : Type 0 where
  pub terminus : HasNumber field.Tid tree board.tid
  pub clock : HasNumber field.Clock tree board.clock
  pub log : HasNumber field.Log tree board.log.records
  pub enables : HasNumber field.Enables tree board.enables.byte
  pub policy : HasNumber field.Policy tree board.policy.number
  pub watchdog : HasNumbers field.Watchdog tree (settings board.watchdog)
  pub sdr : AllZip IsRecordIn (members_in field.Sdr tree) board.sdr.items
  pub boot : HoldsBoot tree board.boot
  pub device : HoldsDevice (table_in field.Device tree) board.device
  pub sensors : AllZip IsSensorIn (members_in field.Sensor tree) board.sensors.items
  pub states : AllZip IsStateIn (members_in field.State tree) board.state_effecters.items
  pub effecters : AllZip IsNumericIn (members_in field.Numeric tree) board.numeric_effecters.items
  pub users : AllZip IsNameIn (members_in field.Users tree) board.users.items
  pub channels : HoldChannels (members_in field.Channel tree) board.channels.items board.sessionless.items board.user_accesses.items
  pub attributes : AllZip IsAttributeIn (members_in field.Attribute tree) board.attributes.items
  pub lans : AllZip IsLanIn (lans_in tree) board.lans.items

-- what the reading of a tree answers: the board that it holds where it has no fault, else its first fault
abbrev pub MembersAnswer : Members → Result BoardFile FileFault → Type 0
MembersAnswer tree (Ok board) = (board_faults tree ≡ []) × HoldsBoard tree board
MembersAnswer tree (Err why) = first (board_faults tree) ≡ Some why

-- what the reading of a text answers where memory suffices: Text where it's no TOML 1.1
abbrev pub ReadsText : List ℕ → Result BoardFile FileFault → Type 0
ReadsText text answer = MatchOption (parse_document text) (answer ≡ Err file.Text) (λ tree. MembersAnswer tree answer)
