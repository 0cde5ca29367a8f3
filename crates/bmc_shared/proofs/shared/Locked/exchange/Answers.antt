use Rattle.std.proofs.Common.{◌≡◌, ◌≤◌, ℕ, List, length, ap, subst, arith}
use Rattle.record_base.specs.Meaning.{room_for}
use Rattle.bmc_board.specs.Gives.{GivesReply}
use Rattle.bmc_board.specs.Asking.{as_asked}
use Rattle.bmc_shared.proofs.Here.{room_is, exchanged_as}
use Rattle.bmc_shared.proofs.Keeping.{kept_as}
use Rattle.bmc_shared.proofs.shared.Locked.exchange.Goals as goal

pub exchange_into-requires : goal.exchange_into-requires
exchange_into-requires g c =
    let none : length c.new-body.result ≡ 0 = ap length c.new-body.ensures in
    let room : room_for (as_asked c.of.result) ≤ 251 = room_is (as_asked c.of.result) in
    record { room = omega (arith, none, room) }

pub returns-in-Ok : goal.returns-in-Ok
returns-in-Ok g c =
    let done = c.in-Ok.ensures.exchanged in
    let kept = c.in-Ok.ensures.kept in
    let said : c.answered.result ≡ done.answered = c.answered.ensures done.answered (subst (λ (xs : List ℕ). GivesReply c.in-Ok.given xs c.exchange_into.new.reply done.answered) c.new-body.ensures done.gives) in
    let told : c.answered.result ≡ kept.answered = c.answered.ensures kept.answered (subst (λ (xs : List ℕ). GivesReply c.in-Ok.given xs c.exchange_into.new.reply kept.answered) c.new-body.ensures kept.gives) in
    let all = exchanged_as g.J.Opening.setup c.args.self.now.held.board c.exchange_into.new.self.held.board c.args.self.now.held.history.items
    c.exchange_into.new.self.held.history.items c.args.seat.now.number (as_asked c.of.result) c.args.asked.now c.in-Ok.given c.new-body.result c.exchange_into.new.reply c.answered.result c.of.ensures
    done said in
    record {
      row = all.0;
      answer = all.1;
      fits = all.2;
      history = all.3;
      full = c.in-Ok.ensures.full;
      same = tt;
      kept = kept_as c.args.seat.now.calls.items c.exchange_into.new.seat.calls.items (as_asked c.of.result) c.args.asked.now c.in-Ok.given c.new-body.result c.exchange_into.new.reply c.answered.result
          c.of.ensures kept told;
      seat = record { mark = c.in-Ok.ensures.seat.mark; same_list = tt; marked = tt; number = c.in-Ok.ensures.seat.number };
    }
