use Rattle.ipmb_frame.proofs.Uniqueness.{frame-one}
use Rattle.ipmb_frame.proofs.laws.one_frame.Goals as goal

pub returns : goal.returns
returns c = frame-one
