-- The fields of users, of channels, and of their LAN parameters (IPMI 2.0).
use Rattle.std.specs.Prelude.{ℕ, ◌+◌, ◌*◌, ◌%◌, ◌==◌, ◌<◌, not, Option, Some, None, List, [], ◌∷◌, ◌++◌, if◌then◌else◌}
use Rattle.record_base.specs.Masks.{has}
use Rattle.record_base.specs.Lan.{address_bytes}
use Rattle.record_base.specs.declared.user.SetUserName.{SetUserName}
use Rattle.record_base.specs.declared.user.SetUserAccess.{SetUserAccess}
use Rattle.record_base.specs.declared.channel.ChannelChange.{ChannelChange}
use Rattle.record_base.specs.declared.channel.ChannelChange.TheVariants as change
use Rattle.record_base.specs.declared.lan_parameter.LanAddress.{LanAddress}
use Rattle.record_base.specs.declared.lan_parameter.LanAddress.TheVariants.{Ip, SubnetMask, DefaultGateway}
use Rattle.record_base.specs.declared.lan_parameter.LanChange.{LanChange}
use Rattle.record_base.specs.declared.lan_parameter.LanChange.TheVariants as lan
use Rattle.record_words.specs.declared.field.Field.{Field}
use Rattle.record_words.specs.declared.meaning.Meaning.TheVariants as meaning
use Rattle.record_words.specs.declared.shown.Shown.{Shown}
use Rattle.record_words.specs.declared.shown.Shown.TheVariants.{Kept, Bits, Number, Switch, Means, Name, Address}
use Rattle.record_words.specs.declared.term.Term.{Term}
use Rattle.record_words.specs.declared.term.Term.TheVariants as term
use Rattle.record_words.specs.FieldWords.{field}

abbrev pub user_name : SetUserName → List Field
user_name set = field term.UserName (Name set.name) ∷ []

-- a limit of privileges
abbrev pub privilege : ℕ → Shown
privilege bits =
    if bits == 1 then Means meaning.Callback
    else (if bits == 2 then Means meaning.User
    else (if bits == 3 then Means meaning.Operator
    else (if bits == 4 then Means meaning.Administrator
    else (if bits == 5 then Means meaning.OemPrivilege
    else (if bits == 15 then Means meaning.NoAccess else Bits bits)))))

-- a place of a byte's bits
abbrev pub IsPlace : ℕ → Type 0
IsPlace place = place < 8

-- one of bits 6:4, which the operation leaves where bit 7 is clear
abbrev pub user_bit : (first place : ℕ) → Shown
user_bit first place = if has first 7 then Switch (has first place) else Kept

-- a limit of sessions, where there is one
abbrev pub sessions : Option ℕ → Shown
sessions None = Kept
sessions (Some most) = Number most

abbrev pub user_access : SetUserAccess → List Field
user_access set =
    field term.PrivilegeLimit (privilege (set.limit % 16)) ∷
    field term.CallbackOnly (user_bit set.first 6) ∷
    field term.LinkAuthentication (user_bit set.first 5) ∷
    field term.IpmiMessaging (user_bit set.first 4) ∷
    field term.SessionLimit (sessions set.session_limit) ∷
    []

-- the access mode of a channel
abbrev pub mode : ℕ → Shown
mode bits =
    if bits == 0 then Means meaning.ModeDisabled
    else (if bits == 1 then Means meaning.PreBootOnly
    else (if bits == 2 then Means meaning.AlwaysAvailable
    else (if bits == 3 then Means meaning.Shared else Bits bits)))

-- a channel's access: a set bit 3, 4 or 5 disables
abbrev pub access : ℕ → List Field
access bits =
    field term.AccessMode (mode (bits % 8)) ∷
    field term.UserLevelAuthentication (Switch (not (has bits 3))) ∷
    field term.PerMessageAuthentication (Switch (not (has bits 4))) ∷
    field term.PefAlerting (Switch (not (has bits 5))) ∷
    []

-- a limit of privileges as a field
abbrev pub limit : ℕ → Field
limit bits = field term.PrivilegeLimit (privilege (bits % 16))

abbrev pub channel_access : ChannelChange → List Field
channel_access (change.Access bits) = access bits.number
channel_access (change.Limit bits) = limit bits.number ∷ []
channel_access (change.Both bits most) = access bits.number ++ limit most.number ∷ []

-- the name of an address
abbrev pub address_term : LanAddress → Term
address_term Ip = term.IpAddress
address_term SubnetMask = term.SubnetMask
address_term DefaultGateway = term.DefaultGateway

-- where an address comes from
abbrev pub source : ℕ → Shown
source bits =
    if bits == 0 then Means meaning.Unspecified
    else (if bits == 1 then Means meaning.Static
    else (if bits == 2 then Means meaning.Dhcp
    else (if bits == 3 then Means meaning.BySoftware
    else (if bits == 4 then Means meaning.OtherSource else Bits bits))))

-- a LAN parameter's: of a VLAN, whether it is used, and its number
abbrev pub lan_param : LanChange → List Field
lan_param (lan.Address which to) = field (address_term which) (Address (address_bytes to)) ∷ []
lan_param (lan.AddressSource byte) = field term.AddressSource (source (byte % 16)) ∷ []
lan_param (lan.Vlan to) = field term.VlanUse (Switch (has to.high 7)) ∷ field term.VlanId (Number (to.low + 256 * (to.high % 16))) ∷ []
