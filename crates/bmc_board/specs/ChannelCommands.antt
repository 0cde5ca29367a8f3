-- What Set Channel Access asks for.
use Rattle.std.specs.Prelude.{ℕ, List, [], Result, Ok}
use Rattle.record_base.specs.declared.op.Op.TheVariants as op
use Rattle.user_chan.specs.declared.channel_request.ChannelRequest.{ChannelRequest}
use Rattle.user_chan.specs.declared.channel_request.ChannelRequest.TheVariants.{Leave, One, Two}
use Rattle.user_chan.specs.ChannelRequests.{channel_request_in}
use Rattle.bmc_board.specs.declared.live.LiveCommand.TheVariants as live
use Rattle.bmc_board.specs.Asks.{Request}
use Rattle.bmc_board.specs.Asks.{Live, Set, SetStores}

-- to leave the channel as it is, to change one store, or two
abbrev pub channel_asked : ChannelRequest → Request
channel_asked (Leave channel) = Live (live.LeaveChannelAccess channel) []
channel_asked (One change) = Set (op.ChannelAccess change)
channel_asked (Two first second) = SetStores first second

-- what the command with this data asks for
abbrev pub channel_set_asked : List ℕ → Result Request ℕ
channel_set_asked body = Ok (channel_asked (channel_request_in body))
