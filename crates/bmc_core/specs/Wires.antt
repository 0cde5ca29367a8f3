-- Requests and replies as the bytes of both buses: all but addresses and check bytes, the number included.
use Rattle.std.specs.Prelude.{ℕ, ◌/◌, ◌%◌, List, drop, slice_index}
use Rattle.two_wire.specs.Circles.{instances}
use Rattle.two_wire.specs.declared.Bus.{Bus}
use Rattle.two_wire.specs.declared.Bus.TheVariants.{Ipmb, Smbus}
use Rattle.record_base.specs.declared.message.Asked.{Asked}
use Rattle.record_base.specs.declared.message.Asked.TheVariants.{Ipmi, Pldm}
use Rattle.record_base.specs.declared.message.Answered.{Answered as BoardAnswer}
use Rattle.model_bus.specs.Bytes.{IpmbHeader, ipmb_request, ipmb_reply, PldmHeader, pldm_request, pldm_reply}
use Rattle.model_bus.specs.Answered.{Answered}
use Rattle.model_bus.specs.Addresses.{Addresses}

-- ---- which bus

-- IPMI goes over IPMB, and PLDM over SMBus
abbrev pub bus_of : Asked → Bus
bus_of (Ipmi from net_fn lun command body) = Ipmb
bus_of (Pldm from kind command body) = Smbus

-- ---- what an answer is

-- an answer, in the words of the board
abbrev pub board_answer : Answered → BoardAnswer
board_answer answered = record { code = answered.code; body = answered.body }

-- an answer, in the words of the buses
abbrev pub family_answer : BoardAnswer → Answered
family_answer board_answer = record { code = board_answer.code; body = board_answer.body }

-- ---- what bytes say

-- what a request on IPMB says in its bytes: the netFn, both logical units and the command
abbrev pub ipmb_header_in : List ℕ → IpmbHeader
ipmb_header_in bytes = record {
  net_fn = slice_index bytes 0 / 4;
  responder_lun = slice_index bytes 0 % 4;
  requester_lun = slice_index bytes 1 % 4;
  command = slice_index bytes 2;
}

-- the sequence number of a request on IPMB
abbrev pub sequence_in : List ℕ → ℕ
sequence_in bytes = slice_index bytes 1 / 4

-- what a PLDM message says in its bytes: its type and its command
abbrev pub pldm_header_in : List ℕ → PldmHeader
pldm_header_in bytes = record { pldm_type = slice_index bytes 2; command = slice_index bytes 3 }

-- the instance of a PLDM message
abbrev pub instance_in : List ℕ → ℕ
instance_in bytes = slice_index bytes 1 % instances

-- ---- requests and replies

-- a request of the manager, which has logical unit 0, under a sequence number or an instance
abbrev pub bytes_of : ℕ → Asked → List ℕ
bytes_of number (Ipmi from net_fn lun command body) = ipmb_request (record { net_fn = net_fn; responder_lun = lun; requester_lun = 0; command = command }) number body
bytes_of number (Pldm from kind command body) = pldm_request (record { pldm_type = kind; command = command }) number body

-- what the bytes of the manager's request ask
abbrev pub asked_from : (Bus → Addresses) → Bus → List ℕ → Asked
asked_from at Ipmb bytes = let h = ipmb_header_in bytes in Ipmi (at Ipmb).manager h.net_fn h.responder_lun h.command (drop 3 bytes)
asked_from at Smbus bytes = let h = pldm_header_in bytes in Pldm (at Smbus).manager h.pldm_type h.command (drop 4 bytes)

-- the reply with this answer, to the request of these bytes
abbrev pub reply_to : Bus → List ℕ → Answered → List ℕ
reply_to Ipmb bytes answered = ipmb_reply (ipmb_header_in bytes) (sequence_in bytes) answered.code answered.body
reply_to Smbus bytes answered = pldm_reply (pldm_header_in bytes) (instance_in bytes) answered.code answered.body

-- the answer that the bytes of a reply give
abbrev pub answered_from : Bus → List ℕ → Answered
answered_from Ipmb bytes = record { code = slice_index bytes 3; body = drop 4 bytes }
answered_from Smbus bytes = record { code = slice_index bytes 4; body = drop 5 bytes }
