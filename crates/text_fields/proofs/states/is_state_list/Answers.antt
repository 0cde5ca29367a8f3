use Rattle.std.proofs.Common.{sym, ◌∙◌}
use Rattle.std.proofs.lemmas.List.Folds.{list_all-map}
use Rattle.toml.specs.View.{view}
use Rattle.text_fields.specs.Ranges.{is_state}
use Rattle.text_fields.proofs.states.is_state_list.Goals as goal

pub returns : goal.returns
returns c = rw (← c.members_of.ensures) (c.all_states.ensures ∙ sym (list_all-map is_state view c.members_of.result.now))
