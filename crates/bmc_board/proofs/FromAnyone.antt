-- Who asks makes no difference to what is asked for, but that a part of a Set is its requester's.
use Rattle.std.proofs.Common.{◌≡◌, ℕ, List, Option, Some, None, Result, Ok, Err, Bool, true, false, if◌then◌else◌, ◌==◌, refl}
use Rattle.two_wire.specs.Codes.{invalid_for_lun, pldm_invalid_type}
use Rattle.record_base.specs.Requests.{byte_at}
use Rattle.record_base.specs.declared.bios_attribute.SetBiosAttribute.{SetBiosAttribute}
use Rattle.record_base.specs.declared.message.Asked.TheVariants.{Ipmi, Pldm}
use Rattle.watch_boot.specs.declared.boot_request.BootRequest.{BootRequest}
use Rattle.watch_boot.specs.declared.boot_request.BootRequest.TheVariants.{Progress, Param}
use Rattle.watch_boot.specs.declared.boot_request.BootShown.{BootShown}
use Rattle.watch_boot.specs.declared.boot_request.BootShown.TheVariants as boot_shown
use Rattle.watch_boot.specs.BootRequests.{boot_request_in, boot_shown_in}
use Rattle.user_chan.specs.declared.channel_request.ChannelRequest.{ChannelRequest}
use Rattle.user_chan.specs.declared.channel_request.ChannelRequest.TheVariants.{Leave, One, Two}
use Rattle.user_chan.specs.ChannelRequests.{channel_request_in}
use Rattle.user_chan.specs.declared.lan_request.LanRequest.{LanRequest}
use Rattle.user_chan.specs.declared.lan_request.LanRequest.TheVariants as lan
use Rattle.user_chan.specs.declared.lan_request.LanShown.{LanShown}
use Rattle.user_chan.specs.declared.lan_request.LanShown.TheVariants as lan_shown
use Rattle.user_chan.specs.LanRequests.{lan_request_in, lan_shown_in}
use Rattle.bios_attr.specs.declared.bios_attribute.AskedPart.{AskedPart}
use Rattle.bios_attr.specs.declared.bios_attribute.AskedPart.TheVariants.{First, Later}
use Rattle.bios_attr.specs.BiosAttribute.{attribute_in, attribute_shown_in, start_and_end}
use Rattle.record_kinds.specs.declared.set_part.SetPart.{SetPart}
use Rattle.record_kinds.specs.PartData.{part_in}
use Rattle.bmc_board.specs.declared.command.Command.{Command}
use Rattle.bmc_board.specs.declared.command.Command.TheVariants as command
use Rattle.bmc_board.specs.declared.command.Line.{Line}
use Rattle.bmc_board.specs.declared.request.Refusals.{Refusals}
use Rattle.bmc_board.specs.BootCommands.{boot_set, boot_get}
use Rattle.bmc_board.specs.ChannelCommands.{channel_asked}
use Rattle.bmc_board.specs.AttributeCommands.{whole_set, part_set, attribute_shown}
use Rattle.bmc_board.specs.LanCommands.{lan_set, lan_get}
use Rattle.bmc_board.specs.Request.{Request, request_of, asked_at, ipmi_refusals, pldm_refusals}
use Rattle.bmc_board.specs.Table.{line_of, pldm_line_of, allow, is_pldm_type}
use Rattle.bmc_board.specs.Decode.{asked_from, IsReadFromAll}

-- both are asked for, or neither
where_asked : (from : ℕ) (b : Bool) (one other : Result Request ℕ) (code : ℕ) → one ≡ asked_from from other → (if b then one else Err code) ≡ asked_from from (if b then other else Err code)
where_asked from true one other code same = same
where_asked from false one other code same = refl

-- ---- a line for each form of what a command's data say

of_boot_set : (from : ℕ) (r : Result BootRequest ℕ) → boot_set r ≡ asked_from from (boot_set r)
of_boot_set from (Ok (Progress byte)) = refl
of_boot_set from (Ok (Param change)) = refl
of_boot_set from (Err code) = refl

of_boot_get : (from : ℕ) (r : Result BootShown ℕ) → boot_get r ≡ asked_from from (boot_get r)
of_boot_get from (Ok boot_shown.Progress) = refl
of_boot_get from (Ok (boot_shown.Param parameter)) = refl
of_boot_get from (Err code) = refl

of_channel : (from : ℕ) (r : ChannelRequest) → Ok (channel_asked r) ≡ asked_from from (Ok (channel_asked r))
of_channel from (Leave channel) = refl
of_channel from (One change) = refl
of_channel from (Two first second) = refl

of_lan_set : (from : ℕ) (r : LanRequest) → Ok (lan_set r) ≡ asked_from from (Ok (lan_set r))
of_lan_set from (lan.Param change) = refl
of_lan_set from (lan.Other channel answer) = refl

of_lan_get : (from : ℕ) (r : LanShown) → Ok (lan_get r) ≡ asked_from from (Ok (lan_get r))
of_lan_get from (lan_shown.Param on) = refl
of_lan_get from (lan_shown.Other channel answer) = refl

of_attribute_set : (from other : ℕ) (whole : Bool) (set : Result SetBiosAttribute ℕ) (part : Result SetPart ℕ)
    → (if whole then whole_set set else part_set from part) ≡ asked_from from (if whole then whole_set set else part_set other part)
of_attribute_set from other true (Ok change) part = refl
of_attribute_set from other true (Err code) part = refl
of_attribute_set from other false set (Ok part) = refl
of_attribute_set from other false set (Err code) = refl

of_attribute_get : (from : ℕ) (r : Result AskedPart ℕ) → attribute_shown r ≡ asked_from from (attribute_shown r)
of_attribute_get from (Ok (First handle)) = refl
of_attribute_get from (Ok (Later handle transfer)) = refl
of_attribute_get from (Err code) = refl

-- ---- a line for each form of command

of_command : (from other : ℕ) (c : Command) (body : List ℕ) → request_of from c body ≡ asked_from from (request_of other c body)
of_command from other (command.Live c) body = refl
of_command from other (command.Get kind) body = refl
of_command from other (command.Set kind) body = refl
of_command from other command.SetBootOptions body = of_boot_set from (boot_request_in body)
of_command from other command.GetBootOptions body = of_boot_get from (boot_shown_in body)
of_command from other command.SetChannelAccess body = of_channel from (channel_request_in body)
of_command from other command.GetChannelAccess body = refl
of_command from other command.SetBiosAttribute body = of_attribute_set from other (byte_at body 4 == start_and_end) (attribute_in body) (part_in body)
of_command from other command.GetBiosAttribute body = of_attribute_get from (attribute_shown_in body)
of_command from other command.SetLanParam body = of_lan_set from (lan_request_in body)
of_command from other command.GetLanParam body = of_lan_get from (lan_shown_in body)

of_line : (from other : ℕ) (refusals : Refusals) (line : Option Line) (body : List ℕ) → asked_at from refusals line body ≡ asked_from from (asked_at other refusals line body)
of_line from other refusals None body = refl
of_line from other refusals (Some line) body = where_asked from (allow line.lengths body) _ _ refusals.not_allowed (of_command from other line.command body)

pub is_read_from_all : IsReadFromAll
is_read_from_all from (Ipmi other net_fn lun number body) = where_asked from (lun == 0) _ _ invalid_for_lun (of_line from other ipmi_refusals (line_of net_fn number) body)
is_read_from_all from (Pldm other kind number body) = where_asked from (is_pldm_type kind) _ _ pldm_invalid_type (of_line from other pldm_refusals (pldm_line_of kind number) body)
