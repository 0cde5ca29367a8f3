-- What is on the wires: requests, responses and packets, and the frames that are their images.
use Rattle.std.specs.Prelude.{ℕ, List, map}
use Rattle.two_wire.specs.declared.Bus.{Bus}
use Rattle.two_wire.specs.declared.Bus.TheVariants.{Ipmb, Smbus}
use Rattle.ipmb_frame.specs.declared.message.Request.{Request}
use Rattle.ipmb_frame.specs.declared.message.Response.{Response}
use Rattle.ipmb_frame.specs.Grammar.{frame, request_head, request_tail, response_head, response_tail, IsRequest, IsResponse}
use Rattle.mctp_net.specs.declared.packet.Packet.{Packet}
use Rattle.mctp_net.specs.declared.message.Message.{Message}
use Rattle.mctp_net.specs.Grammar.{with_pec, unchecked, IsPacket}
use Rattle.model_bus.specs.Packet.{packets_of}

-- what one frame is
pub data Value : Type 0 where
  -- a request on IPMB
  Asks : Request → Value
  -- a response on IPMB
  Tells : Response → Value
  -- a packet on SMBus
  Part : Packet → Value

-- a value's frame
abbrev pub written : Value → List ℕ
written (Asks request) = frame (request_head request) (request_tail request)
written (Tells response) = frame (response_head response) (response_tail response)
written (Part packet) = with_pec (unchecked packet 0)

-- the bytes are the value's frame on the bus
abbrev pub IsFrameOn : Bus → Value → List ℕ → Type 0
IsFrameOn Ipmb (Asks request) bytes = IsRequest request bytes
IsFrameOn Ipmb (Tells response) bytes = IsResponse response bytes
IsFrameOn Ipmb (Part packet) bytes = ⊥
IsFrameOn Smbus (Part packet) bytes = IsPacket packet bytes
IsFrameOn Smbus (Asks request) bytes = ⊥
IsFrameOn Smbus (Tells response) bytes = ⊥

-- the packets of a message: the runs of its bytes, each in its envelope
abbrev pub parts_of : Message → List Packet
parts_of message = map (λ part. record { envelope = message.envelope; start = part.first; end = part.last; sequence = part.sequence; payload = part.payload }) (packets_of message.body)
