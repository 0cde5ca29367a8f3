use Rattle.app_play.proofs.AlikeEnds.{ends_alike}
use Rattle.app_play.proofs.laws.charts_end_as_lines.Goals as goal

pub returns : goal.returns
returns c = ends_alike c.one_ending.ensures
