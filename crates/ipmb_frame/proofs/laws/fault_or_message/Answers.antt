use Rattle.ipmb_frame.proofs.Faultless.{fault-or-message}
use Rattle.ipmb_frame.proofs.Whole.{message-no_fault}
use Rattle.ipmb_frame.proofs.laws.fault_or_message.Goals as goal

pub returns : goal.returns
returns c = record {
  either = fault-or-message;
  not_both = message-no_fault;
}
