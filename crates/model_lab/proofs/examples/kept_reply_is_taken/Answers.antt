use Rattle.model_lab.proofs.Example.{replies_once}
use Rattle.model_lab.proofs.examples.kept_reply_is_taken.Goals as goal

pub returns : goal.returns
returns c = replies_once
