use Rattle.std.proofs.Common.{◌∙◌, ap, not, option_map}
use Rattle.text_check.specs.Looks.{is_silent}
use Rattle.text_check.proofs.Lines.{find_of_map}
use Rattle.text_check.proofs.text_form.first_line.Goals as goal

pub returns : goal.returns
returns c = ap (option_map (λ line. line.now)) c.first_said.ensures ∙ find_of_map (λ line. line.now) (λ line. not (is_silent line)) c.args.lines.now
