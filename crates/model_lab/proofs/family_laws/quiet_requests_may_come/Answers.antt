use Rattle.model_lab.proofs.family_laws.quiet_requests_may_come.Goals as goal
use Rattle.model_undo.proofs.TwoBuses.{however_sent}
use Rattle.model_lab.specs.Board.{QuietMay}
use Rattle.model_lab.proofs.Board.{quiet_may}

pub returns : goal.returns
returns c setup at = however_sent at (QuietMay setup at) (quiet_may setup at)
