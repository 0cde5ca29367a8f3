-- A request that sets the access of a channel in two stores sets two records.
use Rattle.std.proofs.Common.{◌≡◌, ◌≢◌, ℕ, ◌/◌, List, Option, Some, None, Result, Ok, Err, Bool, true, false, if◌then◌else◌, ◌==◌, refl, ap, subst}
use Rattle.two_wire.specs.Codes.{invalid_for_lun, pldm_invalid_type}
use Rattle.record_base.specs.Numbers.{ChannelNumber, SixBits, channel_in, low_bits}
use Rattle.record_base.specs.Requests.{byte_at}
use Rattle.record_base.specs.declared.bios_attribute.SetBiosAttribute.{SetBiosAttribute}
use Rattle.record_base.specs.declared.channel.AccessStore.{AccessStore}
use Rattle.record_base.specs.declared.channel.AccessStore.TheVariants.{NonVolatile, Volatile, Neither}
use Rattle.record_base.specs.declared.channel.ChannelChange.TheVariants.{Access, Limit, Both}
use Rattle.record_base.specs.declared.key.Key.{Key}
use Rattle.record_base.specs.declared.key.Key.TheVariants as of_key
use Rattle.record_base.specs.declared.message.Asked.{Asked}
use Rattle.record_base.specs.declared.message.Asked.TheVariants.{Ipmi, Pldm}
use Rattle.record_base.specs.declared.op.Op.TheVariants as of_kind
use Rattle.record_kinds.specs.Limits.{key_of}
use Rattle.watch_boot.specs.declared.boot_request.BootRequest.{BootRequest}
use Rattle.watch_boot.specs.declared.boot_request.BootRequest.TheVariants.{Progress, Param}
use Rattle.watch_boot.specs.declared.boot_request.BootShown.{BootShown}
use Rattle.watch_boot.specs.declared.boot_request.BootShown.TheVariants as boot_shown
use Rattle.watch_boot.specs.BootRequests.{boot_request_in, boot_shown_in}
use Rattle.user_chan.specs.declared.channel_request.ChannelRequest.TheVariants.{One, Two}
use Rattle.user_chan.specs.ChannelRequests.{named, same_store, change, asked_for}
use Rattle.user_chan.specs.declared.lan_request.LanRequest.{LanRequest}
use Rattle.user_chan.specs.declared.lan_request.LanRequest.TheVariants as lan
use Rattle.user_chan.specs.declared.lan_request.LanShown.{LanShown}
use Rattle.user_chan.specs.declared.lan_request.LanShown.TheVariants as lan_shown
use Rattle.user_chan.specs.LanRequests.{lan_request_in, lan_shown_in}
use Rattle.bios_attr.specs.declared.bios_attribute.AskedPart.{AskedPart}
use Rattle.bios_attr.specs.declared.bios_attribute.AskedPart.TheVariants.{First, Later}
use Rattle.bios_attr.specs.BiosAttribute.{attribute_in, attribute_shown_in, start_and_end}
use Rattle.record_kinds.specs.declared.set_part.SetPart.{SetPart}
use Rattle.record_kinds.specs.PartData.{part_in}
use Rattle.bmc_board.specs.declared.command.Command.{Command}
use Rattle.bmc_board.specs.declared.command.Command.TheVariants as command
use Rattle.bmc_board.specs.declared.command.Line.{Line}
use Rattle.bmc_board.specs.declared.request.Refusals.{Refusals}
use Rattle.bmc_board.specs.BootCommands.{boot_set, boot_get}
use Rattle.bmc_board.specs.ChannelCommands.{channel_asked}
use Rattle.bmc_board.specs.AttributeCommands.{whole_set, part_set, attribute_shown}
use Rattle.bmc_board.specs.LanCommands.{lan_set, lan_get}
use Rattle.bmc_board.specs.Request.{Request, SetStores, request_of, asked_at, asked_by, ipmi_refusals, pldm_refusals}
use Rattle.bmc_board.specs.Table.{line_of, pldm_line_of, allow, is_pldm_type}

-- if the request sets two stores, their records are two
abbrev pub NamesTwo : Result Request ℕ → Type 0
NamesTwo (Ok (SetStores first second)) = key_of (of_kind.ChannelAccess first) ≢ key_of (of_kind.ChannelAccess second)
NamesTwo _ = Unit {0}

-- ---- Set Channel Access names two stores only where they differ

abbrev store_of : Key → AccessStore
store_of (of_key.ChannelAccess stored) = stored.store
store_of _ = Neither

same_self : (store : AccessStore) → same_store store store ≡ true
same_self NonVolatile = refl
same_self Volatile = refl
same_self Neither = refl

unlike : (one other : AccessStore) → same_store one other ≡ false → one ≢ other
unlike one other differ same = let self : same_store one other ≡ true = subst (λ (s : AccessStore). same_store one s ≡ true) same (same_self one) in absurd cc

two_where : (channel : ChannelNumber) (one other : AccessStore) (access limit : SixBits) (b : Bool) → same_store one other ≡ b
    → NamesTwo (Ok (channel_asked (if b then One (change channel one (Both access limit)) else Two (change channel one (Access access)) (change channel other (Limit limit)))))
two_where channel one other access limit true is = tt
two_where channel one other access limit false is = λ same. unlike one other is (ap store_of same)

of_stores : (channel : ChannelNumber) (one other : Option AccessStore) (access limit : SixBits) → NamesTwo (Ok (channel_asked (asked_for channel one other access limit)))
of_stores channel None None access limit = tt
of_stores channel (Some store) None access limit = tt
of_stores channel None (Some store) access limit = tt
of_stores channel (Some one) (Some other) access limit = two_where channel one other access limit (same_store one other) refl

-- ---- a line for each form of what another command's data say

of_boot_set : (r : Result BootRequest ℕ) → NamesTwo (boot_set r)
of_boot_set (Ok (Progress byte)) = tt
of_boot_set (Ok (Param change)) = tt
of_boot_set (Err code) = tt

of_boot_get : (r : Result BootShown ℕ) → NamesTwo (boot_get r)
of_boot_get (Ok boot_shown.Progress) = tt
of_boot_get (Ok (boot_shown.Param parameter)) = tt
of_boot_get (Err code) = tt

of_lan_set : (r : LanRequest) → NamesTwo (Ok (lan_set r))
of_lan_set (lan.Param change) = tt
of_lan_set (lan.Other channel answer) = tt

of_lan_get : (r : LanShown) → NamesTwo (Ok (lan_get r))
of_lan_get (lan_shown.Param on) = tt
of_lan_get (lan_shown.Other channel answer) = tt

of_attribute_set : (from : ℕ) (whole : Bool) (set : Result SetBiosAttribute ℕ) (part : Result SetPart ℕ) → NamesTwo (if whole then whole_set set else part_set from part)
of_attribute_set from true (Ok change) part = tt
of_attribute_set from true (Err code) part = tt
of_attribute_set from false set (Ok part) = tt
of_attribute_set from false set (Err code) = tt

of_attribute_get : (r : Result AskedPart ℕ) → NamesTwo (attribute_shown r)
of_attribute_get (Ok (First handle)) = tt
of_attribute_get (Ok (Later handle transfer)) = tt
of_attribute_get (Err code) = tt

-- ---- a line for each form of command

of_command : (from : ℕ) (c : Command) (body : List ℕ) → NamesTwo (request_of from c body)
of_command from (command.Live c) body = tt
of_command from (command.Get kind) body = tt
of_command from (command.Set kind) body = tt
of_command from command.SetBootOptions body = of_boot_set (boot_request_in body)
of_command from command.GetBootOptions body = of_boot_get (boot_shown_in body)
of_command from command.SetChannelAccess body = of_stores (channel_in (byte_at body 0)) (named (byte_at body 1 / 64)) (named (byte_at body 2 / 64)) (low_bits 6 (byte_at body 1)) (low_bits 6 (byte_at body 2))
of_command from command.GetChannelAccess body = tt
of_command from command.SetBiosAttribute body = of_attribute_set from (byte_at body 4 == start_and_end) (attribute_in body) (part_in body)
of_command from command.GetBiosAttribute body = of_attribute_get (attribute_shown_in body)
of_command from command.SetLanParam body = of_lan_set (lan_request_in body)
of_command from command.GetLanParam body = of_lan_get (lan_shown_in body)

where_asked : (b : Bool) (r : Result Request ℕ) (code : ℕ) → NamesTwo r → NamesTwo (if b then r else Err code)
where_asked true r code two = two
where_asked false r code two = tt

of_line : (from : ℕ) (refusals : Refusals) (line : Option Line) (body : List ℕ) → NamesTwo (asked_at from refusals line body)
of_line from refusals None body = tt
of_line from refusals (Some line) body = where_asked (allow line.lengths body) (request_of from line.command body) refusals.not_allowed (of_command from line.command body)

pub names_two : (asked : Asked) → NamesTwo (asked_by asked)
names_two (Ipmi from net_fn lun number body) = where_asked (lun == 0) (asked_at from ipmi_refusals (line_of net_fn number) body) invalid_for_lun (of_line from ipmi_refusals (line_of net_fn number) body)
names_two (Pldm from kind number body) = where_asked (is_pldm_type kind) (asked_at from pldm_refusals (pldm_line_of kind number) body) pldm_invalid_type (of_line from pldm_refusals (pldm_line_of kind number) body)
