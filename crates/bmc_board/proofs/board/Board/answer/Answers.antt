use Rattle.std.proofs.Common.{◌≡◌, ◌≢◌, ◌≤◌, List, ℕ, Result, [], length, sym, ◌∙◌, ap, subst}
use Rattle.two_wire.specs.Codes.{success}
use Rattle.record_base.specs.Meaning.{room_for}
use Rattle.bmc_board.specs.Request.{Request, asked_of, asked_by}
use Rattle.bmc_board.specs.State.{State, state_of}
use Rattle.bmc_board.specs.Leaves.{RefusalLeaves}
use Rattle.bmc_board.specs.Row.{Row}
use Rattle.bmc_board.specs.Gives.{GivesReply}
use Rattle.bmc_board.specs.Answer.{AnswerAndState, reply, answer_of}
use Rattle.bmc_board.specs.AnyAnswer.{IsCode}
use Rattle.bmc_board.proofs.OneAnswer.{has_answer}
use Rattle.bmc_board.proofs.AnswerFacts.{answers_fit, never_busy, refused_leaves}
use Rattle.bmc_board.proofs.board.Board.answer.Goals as goal

-- the answer and the state after it are the function's, of which each clause holds
pub returns : goal.returns
returns g c =
    let setup = c.args.self.now.setup in
    let asked = c.args.asked.now in
    let before : State = state_of c.args.self.now in
    let after : State = state_of c.reply-done.new.self in
    let given : Result Request ℕ → AnswerAndState = λ r. reply setup before r in
    let read : Result Request ℕ = asked_of c.requester.result c.read_request-command.result.0 c.read_request-command.result.1.now in
    let same_read : read ≡ asked_by asked = ap (λ (from : ℕ). asked_of from c.read_request-command.result.0 c.read_request-command.result.1.now) c.requester.ensures ∙ c.read_request-command.ensures in
    let gives : GivesReply c.reply-done.result [] c.reply-done.new.to (given read).0 =
    subst (λ (old : List ℕ). GivesReply c.reply-done.result old c.reply-done.new.to (given read).0) c.new-shown.ensures c.reply-done.ensures.answer in
    let said : c.answered.result ≡ (given read).0 = c.answered.ensures _ gives in
    let pair : (let p : AnswerAndState = (c.answered.result, after) in p) ≡ given read = λ i. (said i, c.reply-done.ensures.left i) in
    let same : (let p : AnswerAndState = (c.answered.result, after) in p) ≡ answer_of setup before asked = pair ∙ ap given same_read in
    let code : IsCode c.answered.result.code = subst (λ (p : AnswerAndState). IsCode p.0.code) (sym same) (never_busy setup before asked) in
    record {
      row = subst (λ (p : AnswerAndState). Row setup before asked p.0 p.1) (sym same) (has_answer setup before asked);
      answer = same;
      setup = c.reply-done.ensures.setup;
      refused = subst (λ (p : AnswerAndState). p.0.code ≢ success → RefusalLeaves (asked_by asked) p.0.code before p.1) (sym same) (refused_leaves setup before asked);
      not_busy = code.not_busy;
      ready = code.is_ready;
      fits = subst (λ (p : AnswerAndState). length p.0.body ≤ room_for asked) (sym same) (answers_fit setup before asked c.args.self.now.sound);
    }
