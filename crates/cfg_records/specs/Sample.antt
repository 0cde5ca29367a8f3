-- The sample board.
use Rattle.std.specs.Prelude.{◌≡◌, ℕ, List, [], ◌∷◌, map, replicate, false}
use Rattle.record_base.specs.UserSizes.{user_name_size}
use Rattle.record_base.specs.declared.sensor.Sensor.{Sensor}
use Rattle.record_base.specs.declared.watchdog.Watchdog.{Watchdog}
use Rattle.record_base.specs.declared.device.Device.{Device}
use Rattle.cfg_records.specs.declared.board_file.BoardFile.{BoardFile}
use Rattle.record_base.specs.declared.boot_param.BootOptions.{BootOptions}
use Rattle.record_base.specs.BootParam.{flag_bytes}
use Rattle.record_base.specs.declared.channel.Channel.{Channel}
use Rattle.record_base.specs.declared.user.User.{User}
use Rattle.record_base.specs.declared.user.UserAccess.{UserAccess}
use Rattle.record_base.specs.Values.{access_value}
use Rattle.cfg_records.specs.Boards.{joined, sensor_kinds}
use Rattle.record_base.specs.declared.attribute.Attribute.{Attribute}
use Rattle.record_base.specs.declared.attribute.AttributeKind.{AttributeKind}
use Rattle.record_base.specs.declared.attribute.AttributeKind.TheVariants.{Enumeration, Text, Integer}
use Rattle.record_base.specs.declared.attribute.EnumerationAttribute.{EnumerationAttribute}
use Rattle.record_base.specs.declared.attribute.StringAttribute.{StringAttribute}
use Rattle.record_base.specs.declared.attribute.IntegerAttribute.{IntegerAttribute}

-- what Get Device ID says of the sample board
pub record IsSampleDevice (device : Device) : Type 0 where
  pub id : device.id ≡ 0x20
  pub revision : device.revision ≡ 1
  pub major : device.major ≡ 1
  pub minor : device.minor.byte ≡ 0x05
  pub support : device.support ≡ 0x07
  pub manufacturer : device.manufacturer.number ≡ 0xABCD
  pub product : device.product ≡ 0x1234

-- a sensor of these words, whose records have these values: kind after kind
pub record IsSensor (sensor : Sensor) (number sensor_type readable settable supported : ℕ) (values : List (List ℕ)) : Type 0 where
  pub numbered : sensor.number ≡ number
  pub measures : sensor.sensor_type ≡ sensor_type
  pub can_be_read : sensor.thresholds.masks.readable ≡ readable
  pub can_be_set : sensor.thresholds.masks.settable ≡ settable
  pub supports : sensor.events.supported ≡ supported
  pub has : map (λ pair. pair.1) (joined [] (sensor_kinds (sensor ∷ []))) ≡ values

-- a temperature sensor, all of whose thresholds can be read and set, and which makes messages of the upper critical threshold's crossing
abbrev pub IsTemperature : Sensor → Type 0
IsTemperature sensor = IsSensor sensor 5 0x01 0x3F 0x3F 0xFFF ((0x14 ∷ 0x0A ∷ 0x05 ∷ 0x50 ∷ 0x5F ∷ 0x6E ∷ []) ∷ (2 ∷ 2 ∷ []) ∷ (0xC0 ∷ 0x00 ∷ 0x02 ∷ 0 ∷ 0 ∷ []) ∷ [])

-- a fan sensor with upper thresholds alone, of which the highest can be set and not read
abbrev pub IsFan : Sensor → Type 0
IsFan sensor = IsSensor sensor 7 0x04 0x18 0x38 0xFC0 ((0 ∷ 0 ∷ 0 ∷ 0x90 ∷ 0xA0 ∷ 0xB0 ∷ []) ∷ (0 ∷ 0 ∷ []) ∷ (0 ∷ 0 ∷ 0 ∷ 0 ∷ 0 ∷ []) ∷ [])

-- the sensors of the sample board
abbrev pub AreSampleSensors : List Sensor → Type 0
AreSampleSensors (a ∷ b ∷ []) = IsTemperature a × IsFan b
AreSampleSensors _ = ⊥

-- a watchdog that was never set: 0 in each byte
pub record IsUnset (watchdog : Watchdog) : Type 0 where
  pub no_use : watchdog.timer_use ≡ 0
  pub no_action : watchdog.actions ≡ 0
  pub no_warning : watchdog.pre_timeout ≡ 0
  pub no_countdown : watchdog.initial ≡ 0

-- its only sensor data record
abbrev pub sample_record : List ℕ
sample_record = 0x01 ∷ 0x00 ∷ 0x51 ∷ 0xC0 ∷ 0x01 ∷ 0x00 ∷ []

-- boot parameters of 00h alone
pub record IsSampleBoot (boot : BootOptions) : Type 0 where
  pub clearing : boot.valid_bit_clearing ≡ 0
  pub acknowledge : boot.info_acknowledge ≡ 0
  pub flags : flag_bytes boot.flags ≡ 0 ∷ 0 ∷ 0 ∷ 0 ∷ 0 ∷ []

-- a user of this number and name
pub record IsUser (user : User) (number : ℕ) (name : List ℕ) : Type 0 where
  pub numbered : user.number.number ≡ number
  pub named : user.name ≡ name

-- a user without a name, and "admin"
abbrev pub AreSampleUsers : List User → Type 0
AreSampleUsers (a ∷ b ∷ []) = IsUser a 1 (replicate user_name_size 0) × IsUser b 2 (0x61 ∷ 0x64 ∷ 0x6D ∷ 0x69 ∷ 0x6E ∷ replicate 11 0)
AreSampleUsers _ = ⊥

-- one channel with sessions, which is always open to the limit of an administrator
pub record IsSampleChannel (channel : Channel) : Type 0 where
  pub numbered : channel.number.number ≡ 1
  pub non_volatile : access_value channel.non_volatile ≡ 2 ∷ 4 ∷ []
  pub volatile : access_value channel.volatile ≡ 2 ∷ 4 ∷ []

abbrev pub AreSampleChannels : List Channel → Type 0
AreSampleChannels (a ∷ []) = IsSampleChannel a
AreSampleChannels _ = ⊥

-- a user who may send messages on channel 1, as an administrator
pub record IsSampleAccess (access : UserAccess) (user : ℕ) : Type 0 where
  pub channel : access.on.channel.number ≡ 1
  pub numbered : access.on.user.number ≡ user
  pub may : access.byte ≡ 0x14

abbrev pub AreSampleAccesses : List UserAccess → Type 0
AreSampleAccesses (a ∷ b ∷ []) = IsSampleAccess a 1 × IsSampleAccess b 2
AreSampleAccesses _ = ⊥

-- a setting that is off or on, and off at first
pub record IsOffOrOn (e : EnumerationAttribute) : Type 0 where
  pub values : e.values ≡ (0x6F ∷ 0x66 ∷ 0x66 ∷ []) ∷ (0x6F ∷ 0x6E ∷ []) ∷ []
  pub default : e.default ≡ 0 ∷ []
  pub current : e.current ≡ 0 ∷ []

abbrev pub IsQuiet : AttributeKind → Type 0
IsQuiet (Enumeration e) = IsOffOrOn e
IsQuiet _ = ⊥

-- a text of at most 200 bytes, which is "rack-1" at first
pub record IsRack (t : StringAttribute) : Type 0 where
  pub characters : t.string_type ≡ 1
  pub least : t.lengths.least ≡ 0
  pub most : t.lengths.most ≡ 200
  pub default : t.default ≡ []
  pub current : t.current ≡ 0x72 ∷ 0x61 ∷ 0x63 ∷ 0x6B ∷ 0x2D ∷ 0x31 ∷ []

abbrev pub IsAsset : AttributeKind → Type 0
IsAsset (Text t) = IsRack t
IsAsset _ = ⊥

-- a number up to 300 by tens, which is 30 at first
pub record IsByTens (i : IntegerAttribute) : Type 0 where
  pub lower : i.steps.lower ≡ 0
  pub upper : i.steps.upper ≡ 300
  pub increment : i.steps.increment ≡ 10
  pub default : i.default ≡ 30
  pub current : i.current ≡ 30

abbrev pub IsDelay : AttributeKind → Type 0
IsDelay (Integer i) = IsByTens i
IsDelay _ = ⊥

-- an attribute of this handle and name that can be set
pub record IsAttribute (attribute : Attribute) (handle : ℕ) (name : List ℕ) : Type 0 where
  pub numbered : attribute.handle ≡ handle
  pub named : attribute.name ≡ name
  pub can_be_set : attribute.read_only ≡ false

-- "Quiet", "Asset" and "Delay"
abbrev pub AreSampleAttributes : List Attribute → Type 0
AreSampleAttributes (a ∷ b ∷ c ∷ []) =
    IsAttribute a 0 (0x51 ∷ 0x75 ∷ 0x69 ∷ 0x65 ∷ 0x74 ∷ []) × IsQuiet a.kind
    × IsAttribute b 1 (0x41 ∷ 0x73 ∷ 0x73 ∷ 0x65 ∷ 0x74 ∷ []) × IsAsset b.kind
    × IsAttribute c 2 (0x44 ∷ 0x65 ∷ 0x6C ∷ 0x61 ∷ 0x79 ∷ []) × IsDelay c.kind
AreSampleAttributes _ = ⊥

-- the sample board
pub record IsSampleBoard (file : BoardFile) : Type 0 where
  pub terminus : file.tid ≡ 5
  pub device : IsSampleDevice file.device
  pub sensors : AreSampleSensors file.sensors.items
  pub policy : file.policy.number ≡ 1
  pub watchdog : IsUnset file.watchdog
  pub clock : file.clock ≡ 0
  pub log : file.log.records ≡ 2
  pub enables : file.enables.byte ≡ 0x08
  pub sdr : file.sdr.items ≡ sample_record ∷ []
  pub boot : IsSampleBoot file.boot
  pub no_numeric : file.numeric_effecters.items ≡ []
  pub no_state : file.state_effecters.items ≡ []
  pub users : AreSampleUsers file.users.items
  pub channels : AreSampleChannels file.channels.items
  pub no_sessionless : file.sessionless.items ≡ []
  pub accesses : AreSampleAccesses file.user_accesses.items
  pub attributes : AreSampleAttributes file.attributes.items
  pub no_lans : file.lans.items ≡ []
