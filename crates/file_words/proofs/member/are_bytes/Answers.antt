use Rattle.std.proofs.Common.{sym, ◌∙◌}
use Rattle.std.proofs.lemmas.List.Folds.{list_all-map}
use Rattle.toml.specs.View.{view}
use Rattle.file_words.specs.Members.{is_byte}
use Rattle.file_words.proofs.member.are_bytes.Goals as goal

pub returns : goal.returns
returns c = rw (← c.members_of.ensures) (c.all_bytes.ensures ∙ sym (list_all-map is_byte view c.members_of.result.now))
