-- What each request asks for.
use Rattle.std.specs.Prelude.{ℕ, List, Option, Some, None, Result, Ok, Err, ◌≡◌, ◌==◌, if◌then◌else◌}
use Rattle.two_wire.specs.Codes.{invalid_for_lun, invalid_command, invalid_length, pldm_unsupported_command, pldm_invalid_type, pldm_invalid_length}
use Rattle.record_base.specs.declared.message.Asked.{Asked}
use Rattle.record_base.specs.declared.message.Asked.TheVariants.{Ipmi, Pldm}
use Rattle.record_base.specs.declared.key.Key.TheVariants as key
use Rattle.user_chan.specs.ChannelRequests.{stored_in}
use Rattle.record_base.specs.Reader.{Reader}
use Rattle.record_kinds.specs.declared.limits.PlainKind.{PlainKind}
use Rattle.record_kinds.specs.Limits.{reader_of}
use Rattle.bmc_board.specs.declared.command.Command.{Command}
use Rattle.bmc_board.specs.declared.command.Command.TheVariants as command
use Rattle.bmc_board.specs.declared.command.Line.{Line}
use Rattle.bmc_board.specs.declared.live.LiveCommand.{LiveCommand}
use Rattle.bmc_board.specs.declared.request.Refusals.{Refusals}
use Rattle.bmc_board.specs.Table.{line_of, pldm_line_of, allow, is_pldm_type}
use Rattle.bmc_board.specs.BootCommands.{boot_set_asked, boot_get_asked}
use Rattle.bmc_board.specs.ChannelCommands.{channel_set_asked}
use Rattle.bmc_board.specs.AttributeCommands.{attribute_set, attribute_get}
use Rattle.bmc_board.specs.LanCommands.{lan_set_asked, lan_get_asked}
pub use Rattle.bmc_board.specs.Asks.{Request}
pub use Rattle.bmc_board.specs.Asks.{Live, Get, Set, SetStores, PartOfSet, LaterPart}

-- what a live command with this data asks for
abbrev pub live_asked : LiveCommand → List ℕ → Result Request ℕ
live_asked command body = Ok (Live command body)

-- what the command that changes a record asks for, whose data this reader reads
abbrev pub set_read : Reader → List ℕ → Result Request ℕ
set_read reader body = Ok (Set (reader.op_in body))

-- the same of a plain kind's command
abbrev pub plain_set : PlainKind → List ℕ → Result Request ℕ
plain_set kind body = set_read (reader_of kind) body

-- what a requester's command asks for with data of a length that it takes, or the code that refuses the data
abbrev pub request_of : (from : ℕ) → Command → List ℕ → Result Request ℕ
request_of from (command.Live command) body = live_asked command body
request_of from (command.Get kind) body = Ok (Get ((reader_of kind).key_in body))
request_of from (command.Set kind) body = plain_set kind body
request_of from command.SetBootOptions body = boot_set_asked body
request_of from command.GetBootOptions body = boot_get_asked body
request_of from command.SetChannelAccess body = channel_set_asked body
request_of from command.GetChannelAccess body = Ok (Get (key.ChannelAccess (stored_in body)))
request_of from command.SetBiosAttribute body = attribute_set from body
request_of from command.GetBiosAttribute body = attribute_get body
request_of from command.SetLanParam body = Ok (lan_set_asked body)
request_of from command.GetLanParam body = Ok (lan_get_asked body)

-- the same of a command that was read, or the code that refused the request
abbrev pub asked_of : (from : ℕ) → Result Command ℕ → List ℕ → Result Request ℕ
asked_of from (Ok command) body = request_of from command body
asked_of from (Err code) body = Err code

-- what refuses a command that isn't listed, and one whose data has a length that it doesn't take
abbrev pub ipmi_refusals : Refusals
ipmi_refusals = record { unlisted = invalid_command; not_allowed = invalid_length }

abbrev pub pldm_refusals : Refusals
pldm_refusals = record { unlisted = pldm_unsupported_command; not_allowed = pldm_invalid_length }

-- what a line's command asks for, where there is a line and the data has a length that it takes
abbrev pub asked_at : (from : ℕ) → Refusals → Option Line → List ℕ → Result Request ℕ
asked_at from refusals None body = Err refusals.unlisted
asked_at from refusals (Some line) body = if allow line.lengths body then request_of from line.command body else Err refusals.not_allowed

-- who asks: an IPMB address, or an endpoint's EID
abbrev pub requester : Asked → ℕ
requester (Ipmi from net_fn lun number body) = from
requester (Pldm from kind number body) = from

-- what a request asks for, or the first code that refuses it
abbrev pub asked_by : Asked → Result Request ℕ
asked_by (Ipmi from net_fn lun number body) = if lun == 0 then asked_at from ipmi_refusals (line_of net_fn number) body else Err invalid_for_lun
asked_by (Pldm from kind number body) = if is_pldm_type kind then asked_at from pldm_refusals (pldm_line_of kind number) body else Err pldm_invalid_type

-- the command that was read is that of the request, whoever sends it
abbrev pub IsReadFrom : (ℕ → Asked) → List ℕ → Result Command ℕ → Type 0
IsReadFrom sent_by body command = (from : ℕ) → asked_of from command body ≡ asked_by (sent_by from)
