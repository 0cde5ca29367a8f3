-- Set Channel Access asks rightly.
use Rattle.std.proofs.Common.{◌≡◌, ℕ, List, Ok, true, refl}
use Rattle.user_chan.specs.declared.channel_request.ChannelRequest.{ChannelRequest}
use Rattle.user_chan.specs.declared.channel_request.ChannelRequest.TheVariants.{Leave, One, Two}
use Rattle.user_chan.specs.ChannelRequests.{channel_request_in}
use Rattle.bmc_board.specs.ChannelCommands.{channel_asked}
use Rattle.bmc_board.proofs.Rightly.{is_right}

right_of : (asked : ChannelRequest) → is_right 24 true (Ok (channel_asked asked)) ≡ true
right_of (Leave channel) = refl
right_of (One change) = refl
right_of (Two first second) = refl

pub set_right : (body : List ℕ) → is_right 24 true (Ok (channel_asked (channel_request_in body))) ≡ true
set_right body = right_of (channel_request_in body)
