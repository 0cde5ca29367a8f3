-- Whom a frame comes from.
use Rattle.std.specs.Prelude.{◌≡◌, ℕ, List, Option, Some, None}
use Rattle.two_wire.specs.declared.Bus.{Bus}
use Rattle.two_wire.specs.declared.Bus.TheVariants.{Ipmb, Smbus}
use Rattle.ipmb_frame.specs.declared.message.Msg.{Msg}
use Rattle.ipmb_frame.specs.declared.message.Msg.TheVariants.{Request, Response}
use Rattle.ipmb_frame.specs.Grammar.{IsMessage}
use Rattle.mctp_net.specs.declared.packet.Packet.{Packet}
use Rattle.mctp_net.specs.Grammar.{IsPacket}

-- the address that a message comes from
abbrev pub sender_of : Msg → ℕ
sender_of (Request r) = r.header.requester.address
sender_of (Response r) = r.header.responder.address

-- The frame is one of its bus, and comes from this requester: from its address on IPMB, from its endpoint on the System Management Bus.
abbrev pub IsFrom : Bus → (who : ℕ) → (frame : List ℕ) → Type 0
IsFrom Ipmb who frame = (m : Msg) × IsMessage m frame × (sender_of m ≡ who)
IsFrom Smbus who frame = (p : Packet) × IsPacket p frame × (p.envelope.source_eid ≡ who)

-- a turn that heard this heard a frame from the requester
abbrev pub IsHeardFrom : Bus → (who : ℕ) → (heard : Option (List ℕ)) → Type 0
IsHeardFrom on who None = ⊥
IsHeardFrom on who (Some frame) = IsFrom on who frame
