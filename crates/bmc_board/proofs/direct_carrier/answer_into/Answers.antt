use Rattle.std.specs.Prelude.{Result}
use Rattle.std.proofs.Common.{◌≡◌, ℕ, sym, ◌∙◌, ap, subst}
use Rattle.record_base.specs.Meaning.{room_for}
use Rattle.bmc_board.specs.Gives.{GivesReply}
use Rattle.bmc_board.specs.Request.{Request, asked_by, asked_of}
use Rattle.bmc_board.specs.Serves.{ReplyFits, reply_by}
use Rattle.bmc_board.specs.State.{state_of}
use Rattle.bmc_board.specs.Table.{is_changing}
use Rattle.bmc_board.proofs.AskedFacts.{asked_right}
use Rattle.bmc_board.proofs.AnswerFacts.{answers_fit}
use Rattle.bmc_board.specs.Asking.{as_asked}
use Rattle.bmc_board.proofs.Fitting.{fits_behind}
use Rattle.bmc_board.proofs.direct_carrier.answer_into.Goals as goal

pub reply-requires : goal.reply-requires
reply-requires g c =
    let asked = as_asked c.args.asked.now in
    let bytes = g.B.Buffer.bytes c.args.reply.now in
    let read : asked_of c.requester.result c.command.result c.body.result.now ≡ asked_by asked = (λ i. asked_of (c.requester.ensures i) c.command.result (c.body.ensures i)) ∙ c.command.ensures in
    record { room = subst (λ (r : Result Request ℕ). ReplyFits r bytes g.B.Buffer.capacity) (sym read) (fits_behind (asked_by asked) (room_for asked) (is_changing asked) bytes g.B.Buffer.capacity (asked_right asked) c.requires.room) }

pub returns-clause-given : goal.returns-clause-given
returns-clause-given g c =
    let read : asked_of c.requester.result c.command.result c.body.result.now ≡ asked_by (as_asked c.args.asked.now) = (λ i. asked_of (c.requester.ensures i) c.command.result (c.body.ensures i)) ∙ c.command.ensures in
    subst (λ (r : Result Request ℕ). GivesReply c.reply.result (g.B.Buffer.bytes c.args.reply.now) (g.B.Buffer.bytes c.reply.new.to) (reply_by c.args.board.now r).0) read
    c.reply.ensures.answer

pub returns-clause-left : goal.returns-clause-left
returns-clause-left g c =
    let read : asked_of c.requester.result c.command.result c.body.result.now ≡ asked_by (as_asked c.args.asked.now) = (λ i. asked_of (c.requester.ensures i) c.command.result (c.body.ensures i)) ∙ c.command.ensures in
    c.reply.ensures.left ∙ ap (λ (r : Result Request ℕ). (reply_by c.args.board.now r).1) read

pub returns-clause-fits : goal.returns-clause-fits
returns-clause-fits g c = answers_fit c.args.board.now.setup (state_of c.args.board.now) (as_asked c.args.asked.now) c.args.board.now.sound
