use Rattle.std.proofs.Common.{ℕ, List, ◌∷◌, Option, false, sym, ◌∙◌, ap, subst, arith, length}
use Rattle.std.specs.Option.{option_map}
use Rattle.model_bus.specs.Carried.{outcome_of}
use Rattle.bmc_core.specs.Window.{reply_to, pair_at}
use Rattle.bmc_core.specs.Keeps.{HeldWindows, WindowsKeep, slot_of}
use Rattle.bmc_core.proofs.Finds.{finds, finds_free, finds_busy, reads}
use Rattle.bmc_core.proofs.windows.Windows.find.Goals as goal

pub returns-in-Some-find : goal.returns-in-Some-find
returns-in-Some-find g c reading log keeps =
    let r = c.args.request.now in
    let held : HeldWindows = record { slots = c.self.inside.slots; owners = c.self.inside.owners; rooms = c.self.inside.windows.items } in
    ap (λ (o : Option (List ℕ)). outcome_of (option_map reading.reply o) false) (sym c.in-Some-find.is)
    ∙ finds g.row.NUMBERS c.self.invariant.circle reading held log (subst (λ (h : HeldWindows). WindowsKeep g.row.NUMBERS reading h log) (sym c.self.view_is) keeps) r.requester r.number (r.first ∷ r.rest.now)
    c.in-Some.slot c.index-window.result.now c.find.result (omega (arith, c.number-number.ensures.below, c.number-number.ensures.value))
    (ap (λ (h : HeldWindows). slot_of h r.requester) c.self.view_is ∙ sym c.slot.ensures ∙ c.in-Some.is)
    (reads held.rooms c.in-Some.slot c.from.result c.index-window.result.now (c.from.ensures ∙ c.number.ensures.value) (omega (arith, c.number.ensures.below)) c.index-window.ensures)
    (c.find.ensures ∙ ap (λ (n : ℕ). reply_to (r.first ∷ r.rest.now) (pair_at c.index-window.result.now n)) c.number-number.ensures.value)

pub returns-in-None-find : goal.returns-in-None-find
returns-in-None-find g c reading log keeps =
    let r = c.args.request.now in
    let held : HeldWindows = record { slots = c.self.inside.slots; owners = c.self.inside.owners; rooms = c.self.inside.windows.items } in
    ap (λ (o : Option (List ℕ)). outcome_of (option_map reading.reply o) false) (sym c.in-None-find.is)
    ∙ finds g.row.NUMBERS c.self.invariant.circle reading held log (subst (λ (h : HeldWindows). WindowsKeep g.row.NUMBERS reading h log) (sym c.self.view_is) keeps) r.requester r.number (r.first ∷ r.rest.now)
    c.in-Some.slot c.index-window.result.now c.find.result (omega (arith, c.number-number.ensures.below, c.number-number.ensures.value))
    (ap (λ (h : HeldWindows). slot_of h r.requester) c.self.view_is ∙ sym c.slot.ensures ∙ c.in-Some.is)
    (reads held.rooms c.in-Some.slot c.from.result c.index-window.result.now (c.from.ensures ∙ c.number.ensures.value) (omega (arith, c.number.ensures.below)) c.index-window.ensures)
    (c.find.ensures ∙ ap (λ (n : ℕ). reply_to (r.first ∷ r.rest.now) (pair_at c.index-window.result.now n)) c.number-number.ensures.value)

pub returns-in-Some-free : goal.returns-in-Some-free
returns-in-Some-free g c reading log keeps =
    let r = c.args.request.now in
    finds_free g.row.NUMBERS c.self.invariant.circle reading c.args.self.now log keeps r.requester r.number (r.first ∷ r.rest.now) c.in-Some-free.field-0
    (omega (arith, c.number-number.ensures.below, c.number-number.ensures.value)) (sym c.slot.ensures ∙ c.in-None.is)
    (ap (λ (h : HeldWindows). length h.owners) (sym c.self.view_is) ∙ c.self.invariant.owners) (sym c.free.ensures ∙ c.in-Some-free.is)

pub returns-in-None-free : goal.returns-in-None-free
returns-in-None-free g c reading log keeps =
    let r = c.args.request.now in
    finds_busy g.row.NUMBERS c.self.invariant.circle reading c.args.self.now log keeps r.requester r.number (r.first ∷ r.rest.now)
    (omega (arith, c.number-number.ensures.below, c.number-number.ensures.value)) (sym c.slot.ensures ∙ c.in-None.is)
    (ap (λ (h : HeldWindows). length h.owners) (sym c.self.view_is) ∙ c.self.invariant.owners) (sym c.free.ensures ∙ c.in-None-free.is)
