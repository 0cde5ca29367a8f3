use Rattle.std.proofs.Common.{ℕ, Result, Ok, sym, ◌∙◌, ap, subst}
use Rattle.user_chan.specs.declared.channel_request.ChannelRequest.{ChannelRequest}
use Rattle.bmc_board.specs.Request.{Request}
use Rattle.bmc_board.specs.ChannelCommands.{channel_asked}
use Rattle.bmc_board.specs.Serves.{ServesRequest}
use Rattle.bmc_board.proofs.board.Board.set_channel_access.Goals as goal

-- two stores are changed, or none, with no data in the reply
pub returns-in-Two : goal.returns-in-Two
returns-in-Two g c =
    let done = c.set_stores.ensures (g.B.Buffer.bytes c.args.to.now) in
    subst (λ (r : Result Request ℕ). ServesRequest g.B.Buffer.bytes c.args.self.now c.set_stores.new.self r c.set_stores.result c.args.to.now c.args.to.now)
    (ap (λ (r : ChannelRequest). let asked : Result Request ℕ = Ok (channel_asked r) in asked) (sym c.in-Two.is ∙ c.channel_request_in.ensures))
    (record { answer = done.answer; left = done.left; setup = done.setup })
