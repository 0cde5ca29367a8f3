-- The frames of a request from the lab's manager, as its first one on the bus.
use Rattle.std.specs.Prelude.{◌≡◌, ℕ, true, List, [], ◌∷◌}
use Rattle.ipmb_frame.specs.declared.message.Request.{Request}
use Rattle.ipmb_frame.specs.Grammar.{IsRequest}
use Rattle.mctp_net.specs.declared.packet.Envelope.{Envelope}
use Rattle.mctp_net.specs.declared.packet.Packet.{Packet}
use Rattle.mctp_net.specs.declared.message.Message.{Message}
use Rattle.mctp_net.specs.Cut.{IsCutOf, AreWritten}
use Rattle.pldm_base.specs.Message.{request_bytes}
use Rattle.model_bus.specs.Bytes.{pldm_message_type}
use Rattle.model_lab.specs.Meaning.{lab_names}
use Rattle.record_base.specs.declared.message.Asked.{Asked}
use Rattle.record_base.specs.declared.message.Asked.TheVariants.{Ipmi, Pldm}

-- the IPMI request, from the manager to the controller, with number 0
abbrev pub ipmi_of : (net_fn lun command : ℕ) → (body : List ℕ) → Request
ipmi_of net_fn lun command body = record {
  header = record {
    responder = record { address = lab_names.peer_address; lun = lun };
    requester = record { address = lab_names.own_address; lun = 0 };
    net_fn = net_fn;
    sequence = 0;
    command = command;
  };
  body = body;
}

-- from the manager's endpoint to the controller's, with tag 0
abbrev pub to_controller : Envelope
to_controller = record {
  destination = lab_names.peer_wire;
  source = lab_names.own_wire;
  destination_eid = lab_names.peer_eid;
  source_eid = lab_names.own_eid;
  tag_owner = true;
  tag = 0;
}

-- the message of a PLDM request with instance 0
abbrev pub message_of : (kind command : ℕ) → (body : List ℕ) → Message
message_of kind command body = record {
  envelope = to_controller;
  body = pldm_message_type ∷ request_bytes (record { header = record { instance = 0; pldm_type = kind; command = command }; body = body });
}

-- the frame of an IPMI request, or those of the packets of a PLDM request's message
abbrev pub AreFramesOf : Asked → List (List ℕ) → Type 0
AreFramesOf (Ipmi from net_fn lun command body) frames = (frame : List ℕ) × (frames ≡ frame ∷ []) × IsRequest (ipmi_of net_fn lun command body) frame
AreFramesOf (Pldm from kind command body) frames = (packets : List Packet) × IsCutOf (message_of kind command body) packets × AreWritten packets frames
