use Rattle.std.proofs.Common.{sym, ◌∙◌, ap, subst, arith}
use Rattle.bmc_core.specs.Keeps.{HeldWindows, WindowsKeep, slot_of}
use Rattle.bmc_core.proofs.Finds.{had, had_none}
use Rattle.bmc_core.proofs.Tables.{idled_there, idle_there}
use Rattle.bmc_core.proofs.windows.Windows.idle.Goals as goal

pub returns-in-Some-clause-keeps : goal.returns-in-Some-clause-keeps
returns-in-Some-clause-keeps g c reading log keeps =
    let held : HeldWindows = record { slots = c.self.inside.slots; owners = c.self.inside.owners; rooms = c.self.inside.windows.items } in
    idled_there g.row.NUMBERS reading held log (subst (λ (h : HeldWindows). WindowsKeep g.row.NUMBERS reading h log) (sym c.self.view_is) keeps) c.args.requester
    c.in-Some.slot c.from.result c.from-in-Some.result c.from.ensures (c.from-in-Some.ensures ∙ c.number.ensures.value)
    (ap (λ (h : HeldWindows). slot_of h c.args.requester) c.self.view_is ∙ sym c.slot.ensures ∙ c.in-Some.is)
    (omega arith) (omega (arith, c.number.ensures.below, c.number.ensures.value))

pub returns-in-Some-clause-had : goal.returns-in-Some-clause-had
returns-in-Some-clause-had g c reading log keeps =
    sym (had g.row.NUMBERS reading c.args.self.now log keeps c.args.requester c.in-Some.slot (sym c.slot.ensures ∙ c.in-Some.is))

pub returns-in-None-clause-keeps : goal.returns-in-None-clause-keeps
returns-in-None-clause-keeps g c reading log keeps = idle_there g.row.NUMBERS reading c.args.self.now log keeps c.args.requester (sym c.slot.ensures ∙ c.in-None.is)

pub returns-in-None-clause-had : goal.returns-in-None-clause-had
returns-in-None-clause-had g c reading log keeps =
    sym (had_none g.row.NUMBERS reading c.args.self.now log keeps c.args.requester (sym c.slot.ensures ∙ c.in-None.is))
