use Rattle.std.proofs.Common.{◌≡◌, ◌++◌, ◌∷◌, []}
use Rattle.std.proofs.lemmas.List.{take_all}
use Rattle.text_fields.specs.Ranges.{is_state}
use Rattle.text_fields.specs.Trees.{IsNaturalIn}
use Rattle.text_fields.proofs.Members.{next_zip, each_view}
use Rattle.text_board.proofs.state_items.states_of.Goals as goal

pub state-requires : goal.state-requires
state-requires c = each_view is_state c.args.values.now c.loop-value.value-index c.value-item.result c.requires c.loop-value-test.true c.value-item.is

pub returns-clause-held : goal.returns-clause-held
returns-clause-held c = rw (take_all c.loop-value.value-index c.args.values.now c.loop-value-test.false) at c.loop-value.invariant

pub loop-value-preserved : goal.loop-value-preserved
loop-value-preserved c =
    let values = c.args.values.now in
    let i = c.loop-value.value-index in
    let v = c.value-item.result in
    let before = c.loop-value.states.items in
    let n = c.state.result in
    let pushed : c.push.new.self.items ≡ before ++ n ∷ [] = c.in-Ok.ensures.items in
    rw pushed (next_zip values i v c.loop-value-test.true c.value-item.is IsNaturalIn before n c.loop-value.invariant c.state.ensures)
