use Rattle.std.proofs.Common.{ℕ, ◌+◌, ◌∙◌, ap}
use Rattle.bmc_board.specs.Asking.{as_asked}
use Rattle.bmc_shared.specs.declared.event.Call.TheVariants.{Exchanged}
use Rattle.bmc_shared.proofs.Keeping.{has_place_left, has_part, one_more_counted, clash}
use Rattle.bmc_shared.proofs.shared.Locked.answer.Goals as goal

pub exchange_into-requires : goal.exchange_into-requires
exchange_into-requires g c = record { room = c.requires.room }

pub add-requires : goal.add-requires
add-requires g c = has_part c.audit.new.share.parts c.args.share.now.parts c.audit.ensures.parts c.requires.part

pub invariant_of-self : goal.invariant_of-self
invariant_of-self g c =
    let done = c.in-Ok.ensures.exchanged in
    record {
      counted = one_more_counted c.args.self.now.held.history.items c.exchange_into.new.self.history.items
          (record { seat = c.args.number; call = Exchanged (as_asked c.args.asked.now) done.answered })
          c.args.self.now.book.total c.audit.new.self.total c.add.new.self.total
          c.args.self.now.counted done.gained c.audit.ensures.total c.add.ensures.total;
    }

pub returns-in-Ok : goal.returns-in-Ok
returns-in-Ok g c =
    let held = c.args.self.now.held in
    record {
      exchanged = c.in-Ok.ensures.exchanged;
      full = c.in-Ok.ensures.full;
      same = tt;
      nothing = tt;
      counted = c.add.ensures.amount ∙ ap (λ (n : ℕ). n + 1) c.audit.ensures.amount;
      uncounted = tt;
      place = has_place_left c.args.share.now.amount c.args.self.now.book.total _ held.room g.J.Opening.room
          c.audit.ensures.bound c.args.self.now.counted held.within held.room_is (λ full. clash (c.in-Ok.ensures.full.1 full));
      part = c.add.ensures.parts ∙ c.audit.ensures.parts ∙ c.requires.part;
    }

pub returns-in-Err : goal.returns-in-Err
returns-in-Err g c = record {
  exchanged = tt;
  full = c.in-Err.ensures.full;
  same = c.in-Err.ensures.same;
  nothing = c.in-Err.ensures.nothing;
  counted = tt;
  uncounted = c.audit.ensures.amount;
  place = tt;
  part = c.audit.ensures.parts ∙ c.requires.part;
}
