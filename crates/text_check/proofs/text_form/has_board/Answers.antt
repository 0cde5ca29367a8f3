use Rattle.std.proofs.Common.{◌∙◌}
use Rattle.text_check.specs.Looks.{begins_board}
use Rattle.text_check.proofs.Lines.{any_of_map}
use Rattle.text_check.proofs.text_form.has_board.Goals as goal

pub returns : goal.returns
returns c = c.has_any.ensures ∙ any_of_map (λ line. line.now) begins_board c.args.lines.now
