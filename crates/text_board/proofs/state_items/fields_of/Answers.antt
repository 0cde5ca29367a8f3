use Rattle.std.proofs.Common.{◌≡◌, ◌<◌, ◌++◌, ◌∷◌, [], length, take, arith}
use Rattle.std.proofs.lemmas.List.{take_all}
use Rattle.std.proofs.Math.Seq.{take-length}
use Rattle.text_fields.specs.Ranges.{is_state_list}
use Rattle.text_board.specs.Holds.{IsFieldIn, IsPresentIn}
use Rattle.text_fields.proofs.Members.{next_zip, each_view, same_lengths}
use Rattle.text_board.proofs.StateFields.{present_at}
use Rattle.text_board.proofs.state_items.fields_of.Goals as goal

pub bounds-states-place : goal.bounds-states-place
bounds-states-place c =
    let long : length c.args.states.now ≡ length c.args.lists.now = same_lengths c.args.lists.now c.args.states.now c.requires.current in
    omega (arith, long, c.loop-place-test.true)

pub field_of-requires-clause-states : goal.field_of-requires-clause-states
field_of-requires-clause-states c = each_view is_state_list c.args.lists.now c.loop-place.place c.index-lists-place.result c.requires.lists c.loop-place-test.true c.index-lists-place.is

pub field_of-requires-clause-current : goal.field_of-requires-clause-current
field_of-requires-clause-current c =
    let lists = c.args.lists.now in
    let states = c.args.states.now in
    let long : length states ≡ length lists = same_lengths lists states c.requires.current in
    present_at lists states c.loop-place.place c.index-lists-place.result c.index-states-place.result c.requires.current c.loop-place-test.true (omega (arith, long, c.loop-place-test.true)) c.index-lists-place.is c.index-states-place.is

pub loop-place-preserved : goal.loop-place-preserved
loop-place-preserved c =
    let lists = c.args.lists.now in
    let states = c.args.states.now in
    let i = c.loop-place.place in
    let before = c.loop-place.fields.items in
    let f = c.in_ok-field.field in
    let long : length states ≡ length lists = same_lengths lists states c.requires.current in
    let inside : i < length states = omega (arith, long, c.loop-place-test.true) in
    let pushed : c.push.new.self.items ≡ before ++ f ∷ [] = c.in-Ok.ensures.items in
    rw pushed (record {
      held = next_zip lists i c.index-lists-place.result c.loop-place-test.true c.index-lists-place.is IsFieldIn before f c.loop-place.invariant.held c.in_ok-field.ensures.held;
      current = next_zip states i c.index-states-place.result inside c.index-states-place.is IsPresentIn before f c.loop-place.invariant.current c.in_ok-field.ensures.current;
    })

pub returns-clause-held : goal.returns-clause-held
returns-clause-held c = rw (take_all c.loop-place.place c.args.lists.now c.loop-place-test.false) at c.loop-place.invariant.held

pub returns-clause-current : goal.returns-clause-current
returns-clause-current c =
    let states = c.args.states.now in
    let long : length states ≡ length c.args.lists.now = same_lengths c.args.lists.now states c.requires.current in
    let end : c.loop-place.place ≡ length states = omega (arith, long) in
    let whole : take c.loop-place.place states ≡ states = rw end (take-length states) in
    rw whole at c.loop-place.invariant.current
