-- Requests of the commands of LAN parameters, from their data (IPMI 2.0, Set and Get LAN Configuration Parameters): the channel in bits 3:0
-- of the first byte, the selector of the parameter in the second byte, and behind them the data of a Set, or the set and the block of a Get.
use Rattle.std.specs.Prelude.{ℕ, List, [], ◌∷◌, drop, if◌then◌else◌, Option, Some, None}
use Rattle.record_base.specs.declared.lan_parameter.LanParameter.{LanParameter}
use Rattle.record_base.specs.declared.lan_parameter.LanParameter.TheVariants as parameter
use Rattle.record_base.specs.declared.lan_parameter.LanChange.{LanChange}
use Rattle.record_base.specs.declared.lan_parameter.LanChange.TheVariants.{Address, AddressSource, Vlan}
use Rattle.record_base.specs.Lan.{lan_parameter_at}
use Rattle.record_base.specs.LanItems.{parameter_on}
use Rattle.record_base.specs.Masks.{has}
use Rattle.record_base.specs.Numbers.{ChannelNumber, channel_in}
use Rattle.record_base.specs.Requests.{byte_at}
use Rattle.user_chan.specs.declared.lan_request.LanAnswer.TheVariants.{Revision, Unsupported, WrongLength}
use Rattle.user_chan.specs.declared.lan_request.LanRequest.{LanRequest}
use Rattle.user_chan.specs.declared.lan_request.LanRequest.TheVariants as request
use Rattle.user_chan.specs.declared.lan_request.LanShown.{LanShown}
use Rattle.user_chan.specs.declared.lan_request.LanShown.TheVariants as shown

-- ---- Set LAN Configuration Parameters

-- the change of the parameter, from the data behind the selector, where their number is right for the parameter
abbrev pub change_in : LanParameter → List ℕ → Option LanChange
change_in (parameter.Address which) (first ∷ second ∷ third ∷ fourth ∷ []) =
    Some (Address which (record { first = first; second = second; third = third; fourth = fourth }))
change_in parameter.AddressSource (byte ∷ []) = Some (AddressSource byte)
change_in parameter.Vlan (low ∷ high ∷ []) = Some (Vlan (record { low = low; high = high }))
change_in _ _ = None

abbrev pub with_change : ChannelNumber → Option LanChange → LanRequest
with_change channel (Some change) = request.Param (record { channel = channel; change = change })
with_change channel None = request.Other channel WrongLength

abbrev pub set_in : ChannelNumber → List ℕ → Option LanParameter → LanRequest
set_in channel rest (Some parameter) = with_change channel (change_in parameter rest)
set_in channel rest None = request.Other channel Unsupported

-- the request of a Set. A fault of the selector comes before a fault of the number of data behind it.
abbrev pub lan_request_in : List ℕ → LanRequest
lan_request_in body = set_in (channel_in (byte_at body 0)) (drop 2 body) (lan_parameter_at (byte_at body 1))

-- ---- Get LAN Configuration Parameters

abbrev pub shown_in : ChannelNumber → Option LanParameter → LanShown
shown_in channel (Some parameter) = shown.Param (parameter_on channel parameter)
shown_in channel None = shown.Other channel Unsupported

-- the request of a Get. With bit 7 of the first byte it asks for the revision alone, and for no selector.
abbrev pub lan_shown_in : List ℕ → LanShown
lan_shown_in body =
    if has (byte_at body 0) 7 then shown.Other (channel_in (byte_at body 0)) Revision else shown_in (channel_in (byte_at body 0)) (lan_parameter_at (byte_at body 1))
