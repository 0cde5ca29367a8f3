use Rattle.std.proofs.Common.{◌≡◌, ℕ, List, length, drop, refl, sym, ◌∙◌, ap, subst}
use Rattle.std.specs.Prelude.{OnErr}
use Rattle.bmc_board.specs.Asking.{as_asked}
use Rattle.bmc_board.specs.Carrying.{code_given}
use Rattle.bmc_shared.specs.Entries.{exchanged}
use Rattle.bmc_shared.proofs.Keeping.{keeps_here, starts_within, fits_behind, has_place, still_counted, leaves_seat}
use Rattle.bmc_shared.proofs.shared.Locked.exchange_into.Goals as goal

pub answer-given-requires-clause-room : goal.answer-given-requires-clause-room
answer-given-requires-clause-room g c = c.requires.room

pub answer-given-requires-clause-part : goal.answer-given-requires-clause-part
answer-given-requires-clause-part g c = c.args.seat.now.one_part

pub keep-requires-clause-room : goal.keep-requires-clause-room
keep-requires-clause-room g c =
    has_place c.answer-given.result (length c.args.seat.now.calls.items) c.args.seat.now.share.amount c.args.seat.now.calls.room g.J.Opening.room
    c.args.seat.now.counted c.args.seat.now.roomy c.answer-given.ensures.place

pub keep-requires-clause-start : goal.keep-requires-clause-start
keep-requires-clause-start g c =
    starts_within g.J.Opening.setup c.args.self.now.held.board c.answer-given.new.self.held.board c.args.self.now.held.history.items c.answer-given.new.self.held.history.items
    c.args.seat.now.number (as_asked c.args.asked.now) c.answer-given.result c.as_slice-start.result.now (g.B.Buffer.bytes c.args.reply.now)
    (g.B.Buffer.bytes c.answer-given.new.reply) c.as_slice-start.ensures c.answer-given.ensures.exchanged

pub keep-requires-clause-fits : goal.keep-requires-clause-fits
keep-requires-clause-fits g c =
    fits_behind g.J.Opening.setup c.args.self.now.held.board c.answer-given.new.self.held.board c.args.self.now.held.history.items c.answer-given.new.self.held.history.items
    c.args.seat.now.number (as_asked c.args.asked.now) c.answer-given.result c.as_slice-start.result.now (g.B.Buffer.bytes c.args.reply.now)
    (g.B.Buffer.bytes c.answer-given.new.reply) c.as_slice-start.ensures c.answer-given.ensures.exchanged

pub invariant_of-seat : goal.invariant_of-seat
invariant_of-seat g c = record {
  counted = still_counted c.answer-given.result c.args.seat.now.calls.items c.keep.new.calls.items
      (λ given. exchanged c.args.asked.now (code_given given) (drop (length c.as_slice-start.result.now) (g.B.Buffer.bytes c.answer-given.new.reply)))
      c.args.seat.now.share.amount c.answer-given.new.share.amount c.args.seat.now.counted c.keep.ensures.kept c.keep.ensures.same_list
      c.answer-given.ensures.counted c.answer-given.ensures.uncounted;
  roomy = c.keep.ensures.list_room ∙ c.args.seat.now.roomy;
  one_part = c.answer-given.ensures.part;
}

pub returns-clause-nothing : goal.returns-clause-nothing
returns-clause-nothing g c =
    subst (λ r. OnErr r (g.B.Buffer.bytes c.answer-given.new.reply ≡ g.B.Buffer.bytes c.args.reply.now)) (sym c.keep.ensures.given) c.answer-given.ensures.nothing

pub returns-clause-kept : goal.returns-clause-kept
returns-clause-kept g c =
    keeps_here g.J.Opening.setup c.args.self.now.held.board c.answer-given.new.self.held.board c.args.self.now.held.history.items c.answer-given.new.self.held.history.items
    c.args.seat.now.number c.args.seat.now.calls.items c.keep.new.calls.items c.args.asked.now c.keep.result c.answer-given.result (g.B.Buffer.bytes c.args.reply.now)
    (g.B.Buffer.bytes c.answer-given.new.reply) (drop (length c.as_slice-start.result.now) (g.B.Buffer.bytes c.answer-given.new.reply)) c.keep.ensures.given c.answer-given.ensures.exchanged c.keep.ensures.kept
    (ap (λ (xs : List ℕ). drop (length xs) (g.B.Buffer.bytes c.answer-given.new.reply)) c.as_slice-start.ensures)

pub returns-clause-seat : goal.returns-clause-seat
returns-clause-seat g c =
    leaves_seat c.keep.result c.answer-given.result c.args.seat.now _ c.keep.ensures.given c.keep.ensures.mark c.keep.ensures.same_list c.keep.ensures.marked refl
