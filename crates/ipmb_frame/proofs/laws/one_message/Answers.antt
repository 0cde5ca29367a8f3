use Rattle.ipmb_frame.proofs.Uniqueness.{message-one}
use Rattle.ipmb_frame.proofs.laws.one_message.Goals as goal

pub returns : goal.returns
returns c = message-one
