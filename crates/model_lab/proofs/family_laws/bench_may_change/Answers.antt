use Rattle.model_lab.proofs.family_laws.bench_may_change.Goals as goal
use Rattle.model_undo.proofs.TwoBuses.{however_sent}
use Rattle.model_lab.specs.Board.{BenchMay}
use Rattle.model_lab.proofs.Board.{bench_may}

pub returns : goal.returns
returns c setup at = however_sent at (BenchMay setup at) (bench_may setup at)
