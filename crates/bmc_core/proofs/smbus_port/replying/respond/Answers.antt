use Rattle.std.proofs.Common.{◌≡◌, ◌<◌, ◌≤◌, ℕ, List, ◌∷◌, ◌++◌, length, sym, ◌∙◌, ap, subst, arith, lit≤}
use Rattle.pldm_base.specs.declared.message.Header.{Header}
use Rattle.pldm_base.specs.Message.{reply_start}
use Rattle.record_base.specs.declared.message.Asked.{Asked}
use Rattle.record_base.specs.Meaning.{room_for}
use Rattle.bmc_board.specs.Gives.{GivesReply}
use Rattle.bmc_board.specs.Asking.{as_asked}
use Rattle.bmc_core.specs.SmbusHeard.{InMessage}
use Rattle.bmc_core.proofs.SmbusReplies.{spelled_so}
use Rattle.bmc_core.proofs.smbus_port.replying.respond.Goals as goal

pub carry-requires : goal.carry-requires
carry-requires g c =
    let header = c.request.inside.request.header in
    let start : length (1 ∷ reply_start header 0) ≤ 5 = lit≤ tt in
    let whole : length c.begin.new.reply ≡ length (1 ∷ reply_start header 0) = ap length c.begin.ensures.started in
    let room : room_for (as_asked c.asked.result) ≡ 251 = ap room_for c.asked.ensures in
    record { room = omega (arith, start, whole, room) }

pub returns-in-Ok-clause-answered : goal.returns-in-Ok-clause-answered
returns-in-Ok-clause-answered g c =
    let m = c.args.request.now in
    let done = c.in-Ok.ensures.carried in
    let a = done.answered in
    let header : c.request.inside.request.header ≡ m.request.header = ap (λ (x : InMessage). x.request.header) c.request.view_is in
    record {
      answered = a;
      carried = subst (λ (q : Asked). g.C.Carrier.carries c.args.carrier.now c.args.kept.now q a c.carry.new.kept) c.asked.ensures done.carried;
      reply_is = c.finish.ensures a (subst (λ (xs : List ℕ). GivesReply c.in-Ok.given xs c.carry.new.reply a) c.begin.ensures.started done.gives)
          ∙ ap (λ (h : Header). (1 ∷ reply_start h a.code) ++ a.body) header
          ∙ sym (spelled_so m a (subst (λ (h : Header). h.instance < 32) header c.begin.ensures.header.instance));
    }
