use Rattle.std.proofs.Common.{◌≡◌, ◌≤◌, ℕ, List, length, ap, subst, arith, lit≤}
use Rattle.ipmb_frame.specs.declared.message.Header.{Header}
use Rattle.ipmb_frame.specs.Grammar.{response_start, IsResponse}
use Rattle.record_base.specs.declared.message.Asked.{Asked}
use Rattle.record_base.specs.Meaning.{room_for}
use Rattle.bmc_board.specs.Gives.{GivesReply}
use Rattle.bmc_board.specs.Asking.{as_asked}
use Rattle.bmc_core.specs.IpmbShown.{response}
use Rattle.bmc_core.proofs.ipmb_port.replying.respond.Goals as goal

pub carry-requires : goal.carry-requires
carry-requires g c =
    let header = c.header-header.result.now in
    let start : length (response_start header 0) ≤ 8 = lit≤ tt in
    let whole : length c.begin_response.new.frame ≡ length (response_start header 0) = ap length c.begin_response.ensures.started in
    let room : room_for (as_asked c.asked.result) ≡ 24 = ap room_for c.asked.ensures in
    record { room = omega (arith, start, whole, room) }

pub finish-requires : goal.finish-requires
finish-requires g c =
    let done = c.in-Ok.ensures.carried in
    record {
      header = c.begin_response.ensures.header;
      answered = done.answered;
      gives = subst (λ (xs : List ℕ). GivesReply c.in-Ok.given xs c.carry.new.reply done.answered) c.begin_response.ensures.started done.gives;
      fits = subst (λ (q : Asked). length done.answered.body ≤ room_for q) c.asked.ensures done.fits;
    }

pub returns-in-Ok-clause-answered : goal.returns-in-Ok-clause-answered
returns-in-Ok-clause-answered g c =
    let done = c.in-Ok.ensures.carried in
    record {
      answered = done.answered;
      carried = subst (λ (q : Asked). g.C.Carrier.carries c.args.carrier.now c.args.kept.now q done.answered c.carry.new.kept) c.asked.ensures done.carried;
      response = subst (λ (h : Header). IsResponse (response h done.answered.code done.answered.body) c.finish.new.frame) c.header-header.ensures
          (c.finish.ensures done.answered (subst (λ (xs : List ℕ). GivesReply c.in-Ok.given xs c.carry.new.reply done.answered) c.begin_response.ensures.started done.gives)
          (subst (λ (q : Asked). length done.answered.body ≤ room_for q) c.asked.ensures done.fits));
    }
