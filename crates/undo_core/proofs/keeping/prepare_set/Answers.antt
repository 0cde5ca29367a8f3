use Rattle.std.proofs.Common.{◌≡◌, length, Some, None, sym, ◌∙◌, ap, arith}
use Rattle.record_base.specs.declared.message.Asked.{Asked}
use Rattle.bios_attr.specs.EntryParts.{request_at}
use Rattle.record_kinds.specs.Series.{set_whole}
use Rattle.undo_plans.specs.Fitting.{data_of, from_nobody}
use Rattle.undo_plans.specs.Requests.{meant}
use Rattle.undo_core.proofs.Rooms.{whole_from_nobody, alone_whole, alone_fits}
use Rattle.undo_core.proofs.keeping.prepare_set.Goals as goal

pub prepare-requires-clause-room : goal.prepare-requires-clause-room
prepare-requires-clause-room c =
    let any = c.args.op.now in
    let alone : request_at (set_whole any) 1 ≡ None = sym c.set_next.ensures ∙ c.in-None.is in
    let whole : meant c.of.result ≡ set_whole any = c.of.ensures.request ∙ ap from_nobody (c.set_asked-first.ensures ∙ alone_whole any alone) ∙ whole_from_nobody any in
    let few = alone_fits any c.set_asked-first.result alone c.set_asked-first.ensures c.of.ensures.fits in
    omega (arith, few, ap (λ (a : Asked). length (data_of a)) whole, c.requires.room)

pub returns-in-None-clause-waiting : goal.returns-in-None-clause-waiting
returns-in-None-clause-waiting c =
    let any = c.args.op.now in
    let alone : request_at (set_whole any) 1 ≡ None = sym c.set_next.ensures ∙ c.in-None.is in
    c.prepare.ensures.waiting
    ∙ ap (λ (a : Asked). Some a) (c.of.ensures.request ∙ ap from_nobody (c.set_asked-first.ensures ∙ alone_whole any alone) ∙ whole_from_nobody any)

pub returns-in-None-clause-room : goal.returns-in-None-clause-room
returns-in-None-clause-room c =
    let any = c.args.op.now in
    let alone : request_at (set_whole any) 1 ≡ None = sym c.set_next.ensures ∙ c.in-None.is in
    let whole : meant c.of.result ≡ set_whole any = c.of.ensures.request ∙ ap from_nobody (c.set_asked-first.ensures ∙ alone_whole any alone) ∙ whole_from_nobody any in
    let few = alone_fits any c.set_asked-first.result alone c.set_asked-first.ensures c.of.ensures.fits in
    omega (arith, few, ap (λ (a : Asked). length (data_of a)) whole, c.prepare.ensures.room)
