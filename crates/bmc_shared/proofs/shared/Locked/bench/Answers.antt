use Rattle.std.proofs.Common.{◌∙◌, refl, sym, length}
use Rattle.bmc_shared.specs.declared.event.Call.TheVariants.{Benched}
use Rattle.bmc_shared.proofs.Keeping.{has_place_left, has_room, has_part, one_more_counted, clash}
use Rattle.bmc_shared.proofs.shared.Locked.bench.Goals as goal

pub add-requires : goal.add-requires
add-requires g c = has_part c.audit.new.share.parts c.args.seat.now.share.parts c.audit.ensures.parts c.args.seat.now.one_part

pub gain_bench-requires : goal.gain_bench-requires
gain_bench-requires g c =
    let seat = c.args.seat.now in
    let held = c.args.self.now.held in
    has_room (length seat.calls.items) seat.share.amount seat.calls.room g.J.Opening.room seat.counted seat.roomy
    (has_place_left seat.share.amount c.args.self.now.book.total (length held.history.items) held.room g.J.Opening.room
    c.audit.ensures.bound c.args.self.now.counted held.within held.room_is (λ full. clash (c.in-Ok.ensures.full.1 full)))

pub invariant_of-self : goal.invariant_of-self
invariant_of-self g c = record {
  counted = one_more_counted c.args.self.now.held.history.items c.bench.new.self.history.items
      (record { seat = c.args.seat.now.number; call = Benched c.args.bench c.in-Ok.answered })
      c.args.self.now.book.total c.audit.new.self.total c.add.new.self.total
      c.args.self.now.counted c.in-Ok.ensures.history c.audit.ensures.total c.add.ensures.total;
}

pub invariant_of-seat : goal.invariant_of-seat
invariant_of-seat g c =
    let seat = c.args.seat.now in
    record {
      counted = one_more_counted seat.calls.items c.gain_bench.new.self.items (Benched c.args.bench c.in-Ok.answered)
          seat.share.amount c.audit.new.share.amount c.add.new.share.amount
          seat.counted c.gain_bench.ensures.items c.audit.ensures.amount c.add.ensures.amount;
      roomy = c.gain_bench.ensures.room ∙ seat.roomy;
      one_part = c.add.ensures.parts ∙ c.audit.ensures.parts ∙ seat.one_part;
    }

pub invariant_of-seat-in-Err : goal.invariant_of-seat-in-Err
invariant_of-seat-in-Err g c =
    let seat = c.args.seat.now in
    record {
      counted = seat.counted ∙ sym c.audit.ensures.amount;
      roomy = seat.roomy;
      one_part = c.audit.ensures.parts ∙ seat.one_part;
    }

pub returns-in-Ok : goal.returns-in-Ok
returns-in-Ok g c = record {
  answer = c.in-Ok.ensures.answer;
  history = c.in-Ok.ensures.history;
  full = c.in-Ok.ensures.full;
  same = tt;
  kept = c.gain_bench.ensures.items;
  seat = record { mark = refl; same_list = tt; marked = tt; number = refl };
}

pub returns-in-Err : goal.returns-in-Err
returns-in-Err g c = record {
  answer = tt;
  history = tt;
  full = c.in-Err.ensures.full;
  same = c.in-Err.ensures.same;
  kept = tt;
  seat = record { mark = tt; same_list = refl; marked = refl; number = refl };
}
