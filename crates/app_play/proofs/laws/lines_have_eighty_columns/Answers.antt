use Rattle.app_play.proofs.Widths.{lines_fit}
use Rattle.app_play.proofs.laws.lines_have_eighty_columns.Goals as goal

pub returns : goal.returns
returns c = lines_fit
