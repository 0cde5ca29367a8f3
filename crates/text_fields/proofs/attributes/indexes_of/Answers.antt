use Rattle.std.proofs.Common.{◌≡◌, ◌<◌, ◌≤◌, length, arith}
use Rattle.toml.specs.View.{view}
use Rattle.toml.specs.declared.value.Value.{Value}
use Rattle.text_fields.specs.Attributes.{is_below}
use Rattle.text_fields.specs.Trees.{natural, IsNaturalIn}
use Rattle.text_fields.proofs.Members.{next_zip, each_passes, read_so_far}
use Rattle.text_fields.proofs.attributes.indexes_of.Goals as goal

pub index-requires : goal.index-requires
index-requires c = each_passes (λ (value : Value). is_below 256 (natural (view value))) c.args.values.now c.loop-value.value-index c.value-item.result c.requires.indexes c.loop-value-test.true c.value-item.is

pub push-requires : goal.push-requires
push-requires c =
    let values = c.args.values.now in
    let i = c.loop-value.value-index in
    let within : i < length values = c.loop-value-test.true in
    let so_far : length c.loop-value.indexes ≡ i = read_so_far IsNaturalIn values i c.loop-value.indexes (omega (arith, within)) c.loop-value.invariant in
    omega (arith, so_far, within, c.requires.few)

pub loop-value-preserved : goal.loop-value-preserved
loop-value-preserved c =
    let values = c.args.values.now in
    let i = c.loop-value.value-index in
    rw c.push.ensures (next_zip values i c.value-item.result c.loop-value-test.true c.value-item.is IsNaturalIn c.loop-value.indexes c.index.result c.loop-value.invariant c.index.ensures)

pub returns-clause-few : goal.returns-clause-few
returns-clause-few c =
    let values = c.args.values.now in
    let i = c.loop-value.value-index in
    let within : i ≤ length values = omega arith in
    let so_far : length c.loop-value.indexes ≡ i = read_so_far IsNaturalIn values i c.loop-value.indexes within c.loop-value.invariant in
    omega (arith, so_far, within, c.requires.few)
