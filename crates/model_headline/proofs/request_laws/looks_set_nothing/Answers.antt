use Rattle.model_headline.proofs.request_laws.looks_set_nothing.Goals as goal
use Rattle.model_headline.proofs.LookRequests as look

pub returns : goal.returns
returns c = look.looks_set_nothing
