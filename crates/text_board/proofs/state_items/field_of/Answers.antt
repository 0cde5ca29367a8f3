use Rattle.std.proofs.Common.{◌≡◌, true, ◌∙◌, ap}
use Rattle.std.specs.List.{list_all, AllZip}
use Rattle.toml.specs.View.{view}
use Rattle.record_base.specs.StateField.{allows}
use Rattle.text_fields.specs.Trees.{IsNaturalIn, members, or_none}
use Rattle.text_fields.specs.Ranges.{is_state}
use Rattle.text_board.proofs.StateFields.{present_small, present_allowed}
use Rattle.text_board.proofs.state_items.field_of.Goals as goal

pub states_of-requires : goal.states_of-requires
states_of-requires c = ap (list_all is_state) c.members_of.ensures ∙ c.requires.states

pub state-requires : goal.state-requires
state-requires c = present_small (view c.args.states.now) (view c.args.current.now) c.requires.states c.requires.current

pub unwrap-requires : goal.unwrap-requires
unwrap-requires c =
    let states = view c.args.states.now in
    let allowed = c.in_ok-allowed.allowed.items in
    let zip : AllZip IsNaturalIn (or_none (members states)) allowed = rw (← c.members_of.ensures) c.in_ok-allowed.ensures.held in
    let can : allows allowed c.state.result ≡ true = present_allowed states (view c.args.current.now) allowed c.state.result c.requires.current c.state.ensures zip in
    c.new-2.ensures.made.1 (rw c.new.ensures can)
