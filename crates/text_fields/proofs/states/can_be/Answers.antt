use Rattle.std.proofs.Common.{◌≡◌, Some, sym, ap, ◌∙◌}
use Rattle.std.specs.List.{list_any}
use Rattle.toml.specs.View.{view}
use Rattle.text_fields.specs.Trees.{natural}
use Rattle.text_fields.specs.Ranges.{is_number}
use Rattle.text_fields.proofs.Members.{listed_view}
use Rattle.text_fields.proofs.states.can_be.Goals as goal

pub returns-in-Some : goal.returns-in-Some
returns-in-Some c =
    let n = c.in-Some.number in
    let found : natural (view c.args.state.now) ≡ Some n = sym c.natural.ensures ∙ c.in-Some.is in
    rw found (c.is_listed.ensures ∙ listed_view n c.members_of.result.now ∙ ap (list_any (is_number n)) c.members_of.ensures)
