use Rattle.std.proofs.Common.{◌≡◌, length, Some, refl, ◌∙◌, ap, arith}
use Rattle.record_base.specs.declared.message.Asked.{Asked}
use Rattle.record_base.specs.declared.message.Asked.TheVariants.{Ipmi, Pldm}
use Rattle.record_kinds.specs.Series.{set_whole}
use Rattle.bios_attr.specs.EntryParts.{with_body}
use Rattle.undo_plans.specs.Fitting.{data_of, from_nobody}
use Rattle.undo_plans.specs.Requests.{meant}
use Rattle.undo_core.proofs.keeping.prepare_whole.Goals as goal

-- a request without its sender has the same data
same_data : (asked : Asked) → data_of (from_nobody asked) ≡ data_of asked
same_data (Ipmi from net_fn lun command body) = refl
same_data (Pldm from kind command body) = refl

pub prepare-requires-clause-room : goal.prepare-requires-clause-room
prepare-requires-clause-room c =
    let whole : meant c.with.result ≡ from_nobody (set_whole c.args.op.now) =
    c.with.ensures ∙ (λ i. from_nobody (with_body (c.requires.first i) ((c.as_slice.ensures.value ∙ c.set_data-whole.ensures) i))) in
    omega (arith, ap (λ (a : Asked). length (data_of a)) whole, ap length (same_data (set_whole c.args.op.now)), c.requires.room)

pub returns-clause-waiting : goal.returns-clause-waiting
returns-clause-waiting c =
    let whole : meant c.with.result ≡ from_nobody (set_whole c.args.op.now) =
    c.with.ensures ∙ (λ i. from_nobody (with_body (c.requires.first i) ((c.as_slice.ensures.value ∙ c.set_data-whole.ensures) i))) in
    c.prepare.ensures.waiting ∙ ap (λ (a : Asked). Some a) whole

pub returns-clause-room : goal.returns-clause-room
returns-clause-room c =
    let whole : meant c.with.result ≡ from_nobody (set_whole c.args.op.now) =
    c.with.ensures ∙ (λ i. from_nobody (with_body (c.requires.first i) ((c.as_slice.ensures.value ∙ c.set_data-whole.ensures) i))) in
    omega (arith, ap (λ (a : Asked). length (data_of a)) whole, ap length (same_data (set_whole c.args.op.now)), c.prepare.ensures.room)
