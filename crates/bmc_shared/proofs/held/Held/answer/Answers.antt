use Rattle.std.proofs.Common.{◌≡◌, ◌∷◌, [], ◌++◌, List, subst, sym, ap, ◌∙◌}
use Rattle.cfg_records.specs.declared.board_file.BoardFile.{BoardFile}
use Rattle.bmc_board.specs.State.{State, state_of}
use Rattle.bmc_board.specs.Serves.{given_by}
use Rattle.bmc_board.specs.Answer.{AnswerAndState, answer_of}
use Rattle.bmc_board.specs.Asking.{as_asked}
use Rattle.bmc_shared.specs.declared.event.Call.{Call}
use Rattle.bmc_shared.specs.declared.event.Event.{Event}
use Rattle.bmc_shared.specs.declared.event.Call.TheVariants.{Exchanged}
use Rattle.bmc_shared.specs.Replay.{IsReplay}
use Rattle.bmc_shared.proofs.Here.{call_is, rest_given, row_of}
use Rattle.bmc_shared.proofs.Replaying.{goes_on_to}
use Rattle.bmc_shared.proofs.held.Held.answer.Goals as goal

pub invariant_of-self-clause-replays : goal.invariant_of-self-clause-replays
invariant_of-self-clause-replays g c =
    let old = c.args.self.now in
    let asked = as_asked c.args.asked.now in
    let given : AnswerAndState = given_by old.board asked in
    let event : Event = record { seat = c.args.port; call = Exchanged asked given.0 } in
    let here = call_is c.args.asked.now c.answer_into-given.result (g.B.Buffer.bytes c.args.reply.now) (g.B.Buffer.bytes c.answer_into-given.new.reply)
    _ c.code_of.result given.0 c.answer_into-given.ensures.given c.code_of.ensures
    (rest_given c.as_slice.result.now c.as_slice-start.result.now (g.B.Buffer.bytes c.args.reply.now) (g.B.Buffer.bytes c.answer_into-given.new.reply) c.as_slice.ensures c.as_slice-start.ensures) in
    let pushed : c.gain_exchange.new.self.items ≡ old.history.items ++ event ∷ [] =
    c.gain_exchange.ensures.items ∙ ap (λ (call : Call). old.history.items ++ (let e : Event = record { seat = c.args.port; call = call } in e) ∷ []) here in
    let before : State = state_of old.board in
    let after : State = state_of c.answer_into-given.new.board in
    let is : answer_of g.J.Opening.setup before asked ≡ given = ap (λ (setup : BoardFile). answer_of setup before asked) (sym old.setup) in
    subst (λ (events : List Event). IsReplay g.J.Opening.setup g.J.Opening.opening events after) (sym pushed)
    (goes_on_to g.J.Opening.setup g.J.Opening.opening old.history.items before after event old.replays (ap (λ (given : AnswerAndState). given.0) is)
    (ap (λ (given : AnswerAndState). given.1) is ∙ sym c.answer_into-given.ensures.left))

pub returns : goal.returns
returns g c =
    let old = c.args.self.now in
    let asked = as_asked c.args.asked.now in
    let given : AnswerAndState = given_by old.board asked in
    let here = call_is c.args.asked.now c.answer_into-given.result (g.B.Buffer.bytes c.args.reply.now) (g.B.Buffer.bytes c.answer_into-given.new.reply)
    _ c.code_of.result given.0 c.answer_into-given.ensures.given c.code_of.ensures
    (rest_given c.as_slice.result.now c.as_slice-start.result.now (g.B.Buffer.bytes c.args.reply.now) (g.B.Buffer.bytes c.answer_into-given.new.reply) c.as_slice.ensures c.as_slice-start.ensures) in
    let before : State = state_of old.board in
    let after : State = state_of c.answer_into-given.new.board in
    let is : given ≡ answer_of g.J.Opening.setup before asked = ap (λ (setup : BoardFile). answer_of setup before asked) old.setup in
    let reply : (let p : AnswerAndState = (given.0, after) in p) ≡ answer_of g.J.Opening.setup before asked = (λ i. (given.0, c.answer_into-given.ensures.left i)) ∙ is in
    record {
      answered = given.0;
      gives = c.answer_into-given.ensures.given;
      fits = c.answer_into-given.ensures.fits;
      row = row_of g.J.Opening.setup old.board c.answer_into-given.new.board asked given.0 reply;
      reply = reply;
      gained = c.gain_exchange.ensures.items ∙ ap (λ (call : Call). old.history.items ++ (let e : Event = record { seat = c.args.port; call = call } in e) ∷ []) here;
    }
