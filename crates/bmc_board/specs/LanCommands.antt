-- What the commands of LAN configuration parameters ask for, and what they reply where they name no record (IPMI 2.0, Set and Get LAN Configuration
-- Parameters).
use Rattle.std.specs.Prelude.{ℕ, List, [], ◌∷◌, Option, Some, None}
use Rattle.two_wire.specs.Codes.{invalid_length, invalid_data_field}
use Rattle.record_base.specs.Numbers.{ChannelNumber}
use Rattle.record_base.specs.declared.key.Key.TheVariants as key
use Rattle.record_base.specs.declared.lan.Lan.{Lan}
use Rattle.record_base.specs.declared.message.Answered.{Answered}
use Rattle.record_base.specs.declared.op.Op.TheVariants as op
use Rattle.cfg_records.specs.declared.board_file.BoardFile.{BoardFile}
use Rattle.user_chan.specs.declared.lan_request.LanAnswer.{LanAnswer}
use Rattle.user_chan.specs.declared.lan_request.LanAnswer.TheVariants.{Revision, Unsupported, WrongLength}
use Rattle.user_chan.specs.declared.lan_request.LanRequest.{LanRequest}
use Rattle.user_chan.specs.declared.lan_request.LanRequest.TheVariants as request
use Rattle.user_chan.specs.declared.lan_request.LanShown.{LanShown}
use Rattle.user_chan.specs.declared.lan_request.LanShown.TheVariants as shown
use Rattle.user_chan.specs.LanRequests.{lan_request_in, lan_shown_in}
use Rattle.record_kinds.specs.Lans.{lan_at}
use Rattle.bmc_board.specs.declared.live.LiveCommand.TheVariants as live
use Rattle.bmc_board.specs.Asks.{Request}
use Rattle.bmc_board.specs.Asks.{Live, Get, Set}
use Rattle.bmc_board.specs.Replies.{done, refused}

-- ---- what is asked for

-- a record, or a live command with no further data
abbrev pub lan_set : LanRequest → Request
lan_set (request.Param change) = Set (op.LanParam change)
lan_set (request.Other channel answer) = Live (live.AnswerLan channel answer) []

abbrev pub lan_get : LanShown → Request
lan_get (shown.Param on) = Get (key.LanParam on)
lan_get (shown.Other channel answer) = Live (live.AnswerLan channel answer) []

-- what a Set with this data asks for
abbrev pub lan_set_asked : List ℕ → Request
lan_set_asked body = lan_set (lan_request_in body)

-- and a Get
abbrev pub lan_get_asked : List ℕ → Request
lan_get_asked body = lan_get (lan_shown_in body)

-- ---- what is replied

-- the code of a parameter that isn't supported
abbrev pub unsupported_parameter : ℕ
unsupported_parameter = 0x80

-- a channel that has such parameters gives the revision, 1.1, or refuses the selector or the length of the data; another channel is refused first
abbrev pub lan_where : Option Lan → LanAnswer → Answered
lan_where (Some lan) Revision = done (0x11 ∷ [])
lan_where (Some lan) Unsupported = refused unsupported_parameter
lan_where (Some lan) WrongLength = refused invalid_length
lan_where None answer = refused invalid_data_field

abbrev pub lan_answer : BoardFile → ChannelNumber → LanAnswer → Answered
lan_answer setup channel answer = lan_where (lan_at setup.lans.items channel.number) answer
