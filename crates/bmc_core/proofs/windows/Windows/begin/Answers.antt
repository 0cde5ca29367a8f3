use Rattle.std.proofs.Common.{ℕ, ◌∷◌, sym, ◌∙◌, ap, subst, arith, length, refl}
use Rattle.std.specs.List.{position}
use Rattle.std.specs.Option.{is_none}
use Rattle.bmc_core.specs.Window.{WindowEntry, KeepsAtNumber}
use Rattle.bmc_core.specs.Keeps.{HeldWindows, WindowsKeep, slot_of}
use Rattle.bmc_core.proofs.Finds.{busy_differs, not_busy_there, place_within}
use Rattle.bmc_core.proofs.Tied.{at, room}
use Rattle.bmc_core.proofs.Tables.{given_there}
use Rattle.bmc_core.proofs.windows.Windows.begin.Goals as goal

pub returns-in_default-clause-carried : goal.returns-in_default-clause-carried
returns-in_default-clause-carried g c reading log keeps new =
    let r = c.args.request.now in
    absurd (busy_differs g.row.NUMBERS c.self.invariant.circle reading c.args.self.now log keeps r.requester r.number (r.first ∷ r.rest.now)
    (omega (arith, c.number-number.ensures.below, c.number-number.ensures.value)) c.requires.none
    (ap (λ (h : HeldWindows). length h.owners) (sym c.self.view_is) ∙ c.self.invariant.owners) (sym c.free.ensures ∙ c.in_default.is) new)

pub returns-in_default-clause-busy : goal.returns-in_default-clause-busy
returns-in_default-clause-busy g c reading log keeps busy = refl

pub returns-clause-carried : goal.returns-clause-carried
returns-clause-carried g c reading log keeps new =
    let r = c.args.request.now in
    let p : WindowEntry = record { request = r.first ∷ r.rest.now; reply = c.args.reply.now } in
    let held : HeldWindows = record { slots = c.self.inside.slots; owners = c.self.inside.owners; rooms = c.self.inside.windows.items } in
    let first = place_within held.owners c.in-Some.place (ap (λ (h : HeldWindows). position is_none h.owners) c.self.view_is ∙ sym c.free.ensures ∙ c.in-Some.is) in
    let less = first.0 in
    let here = first.1 in
    given_there g.row.NUMBERS reading held log (subst (λ (h : HeldWindows). WindowsKeep g.row.NUMBERS reading h log) (sym c.self.view_is) keeps) r.requester r.number p
    (omega (arith, c.number-number.ensures.below, c.number-number.ensures.value))
    c.in-Some.place c.from.result c.new.result c.clear.new.self c.keep.new.self c.from.ensures c.new.ensures
    (ap (λ (h : HeldWindows). slot_of h r.requester) c.self.view_is ∙ c.requires.none)
    (ap (at held.owners) (sym here) ∙ (room held.owners less).1)
    (omega arith) (omega arith) (omega arith)
    c.clear.ensures (subst (λ (n : ℕ). KeepsAtNumber g.row.NUMBERS n p c.clear.new.self c.keep.new.self) c.number-number.ensures.value c.keep.ensures)

pub returns-clause-busy : goal.returns-clause-busy
returns-clause-busy g c reading log keeps busy =
    let r = c.args.request.now in
    absurd (not_busy_there g.row.NUMBERS c.self.invariant.circle reading c.args.self.now log keeps r.requester r.number (r.first ∷ r.rest.now) c.in-Some.place
    (omega (arith, c.number-number.ensures.below, c.number-number.ensures.value)) c.requires.none
    (ap (λ (h : HeldWindows). length h.owners) (sym c.self.view_is) ∙ c.self.invariant.owners) (sym c.free.ensures ∙ c.in-Some.is) busy)
