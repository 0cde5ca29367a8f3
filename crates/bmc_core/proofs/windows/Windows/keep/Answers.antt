use Rattle.std.proofs.Common.{ℕ, ◌∷◌, sym, ◌∙◌, ap, subst, arith}
use Rattle.bmc_core.specs.Window.{WindowEntry, KeepsAtNumber}
use Rattle.bmc_core.specs.Keeps.{HeldWindows, WindowsKeep, slot_of}
use Rattle.bmc_core.proofs.Finds.{not_busy_here}
use Rattle.bmc_core.proofs.Tables.{kept_there}
use Rattle.bmc_core.proofs.windows.Windows.keep.Goals as goal

pub returns-in-Some-clause-carried : goal.returns-in-Some-clause-carried
returns-in-Some-clause-carried g c reading log keeps new =
    let r = c.args.request.now in
    let p : WindowEntry = record { request = r.first ∷ r.rest.now; reply = c.args.reply.now } in
    let held : HeldWindows = record { slots = c.self.inside.slots; owners = c.self.inside.owners; rooms = c.self.inside.windows.items } in
    kept_there g.row.NUMBERS reading held log (subst (λ (h : HeldWindows). WindowsKeep g.row.NUMBERS reading h log) (sym c.self.view_is) keeps) r.requester r.number p
    (omega (arith, c.number-number.ensures.below, c.number-number.ensures.value))
    c.in-Some.slot c.from.result c.index_mut-window.result.now c.keep.new.self (c.from.ensures ∙ c.number.ensures.value)
    (ap (λ (h : HeldWindows). slot_of h r.requester) c.self.view_is ∙ sym c.slot.ensures ∙ c.in-Some.is)
    c.index_mut-window.ensures.value (omega (arith, c.number.ensures.below, c.number.ensures.value))
    (subst (λ (n : ℕ). KeepsAtNumber g.row.NUMBERS n p c.index_mut-window.result.now c.keep.new.self) c.number-number.ensures.value c.keep.ensures)

pub returns-in-Some-clause-busy : goal.returns-in-Some-clause-busy
returns-in-Some-clause-busy g c reading log keeps busy =
    let r = c.args.request.now in
    absurd (not_busy_here g.row.NUMBERS c.self.invariant.circle reading c.args.self.now log keeps r.requester r.number (r.first ∷ r.rest.now) c.in-Some.slot
    (omega (arith, c.number-number.ensures.below, c.number-number.ensures.value)) (sym c.slot.ensures ∙ c.in-Some.is) busy)
