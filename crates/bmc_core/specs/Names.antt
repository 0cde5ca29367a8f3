-- What a reason is called.
use Rattle.std.specs.Prelude.{ℕ, List, codes}
use Rattle.ipmb_frame.specs.Fault.{fault_name}
use Rattle.mctp_net.specs.Grammar.{fault_name as packet_fault_name}
use Rattle.mctp_net.specs.Assembly.{cause_name}
use Rattle.pldm_base.specs.Message.{fault_name as pldm_fault_name}
use Rattle.bmc_core.specs.declared.out.Reason.{Reason}
use Rattle.bmc_core.specs.declared.out.Reason.TheVariants.{Frame, Packet, NotOurs, Dropped, NotRequest, MessageType, Pldm}

-- the reason's name, or the fault's or the cause's
abbrev pub reason_name : Reason → List ℕ
reason_name (Frame fault) = fault_name fault
reason_name (Packet fault) = packet_fault_name fault
reason_name NotOurs = codes "NotOurs"
reason_name (Dropped cause) = cause_name cause
reason_name NotRequest = codes "NotRequest"
reason_name MessageType = codes "MessageType"
reason_name (Pldm fault) = pldm_fault_name fault
