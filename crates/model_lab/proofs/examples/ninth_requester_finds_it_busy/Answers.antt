use Rattle.model_lab.proofs.LongExample.{ninth_is_busy}
use Rattle.model_lab.proofs.examples.ninth_requester_finds_it_busy.Goals as goal

pub returns : goal.returns
returns c = ninth_is_busy
