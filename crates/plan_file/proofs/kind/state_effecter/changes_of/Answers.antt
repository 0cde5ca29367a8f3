use Rattle.std.proofs.Common.{◌≡◌, ◌<◌, ◌≤◌, length, is_some, sym, ap, ◌∙◌, arith}
use Rattle.text_fields.specs.States.{change_of}
use Rattle.plan_file.specs.Kinds.StateEffecter.{IsChangeIn}
use Rattle.text_fields.proofs.Members.{next_zip, each_view, read_so_far}
use Rattle.plan_file.proofs.kind.state_effecter.changes_of.Goals as goal

pub unwrap-requires : goal.unwrap-requires
unwrap-requires c =
    ap is_some c.change_of.ensures ∙ each_view (λ d. is_some (change_of d)) c.args.values.now c.loop-value.value-index c.value-item.result c.requires.changes c.loop-value-test.true c.value-item.is

pub push-requires : goal.push-requires
push-requires c =
    let values = c.args.values.now in
    let i = c.loop-value.value-index in
    let within : i < length values = c.loop-value-test.true in
    let so_far : length c.loop-value.changes ≡ i = read_so_far IsChangeIn values i c.loop-value.changes (omega (arith, within)) c.loop-value.invariant in
    omega (arith, so_far, within, c.requires.few)

pub loop-value-preserved : goal.loop-value-preserved
loop-value-preserved c =
    let values = c.args.values.now in
    let i = c.loop-value.value-index in
    let before = c.loop-value.changes in
    let change = c.unwrap.result in
    rw c.push.ensures (next_zip values i c.value-item.result c.loop-value-test.true c.value-item.is IsChangeIn before change c.loop-value.invariant (sym c.change_of.ensures ∙ c.unwrap.ensures))

pub returns-clause-few : goal.returns-clause-few
returns-clause-few c =
    let values = c.args.values.now in
    let i = c.loop-value.value-index in
    let within : i ≤ length values = omega arith in
    let so_far : length c.loop-value.changes ≡ i = read_so_far IsChangeIn values i c.loop-value.changes within c.loop-value.invariant in
    omega (arith, so_far, within, c.requires.few)
