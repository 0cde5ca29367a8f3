-- What is on the buses, how a message is packets, and how packets are put together.
use Rattle.std.specs.Prelude.{ℕ, zero, suc, ◌==◌, ◌&&◌, ◌||◌, not, nat_lt, nat_le, Bool, true, false, List, [], ◌∷◌, ◌++◌, length, take, drop, filter, if◌then◌else◌}
use Rattle.std.specs.List.{flat_map}
pub use Rattle.two_wire.specs.declared.Bus.{Bus}
pub use Rattle.two_wire.specs.declared.Bus.TheVariants.{Ipmb, Smbus}
pub use Rattle.ipmb_frame.specs.declared.message.Request.{Request}
pub use Rattle.ipmb_frame.specs.declared.message.Response.{Response}
pub use Rattle.mctp_net.specs.declared.packet.Envelope.{Envelope}
pub use Rattle.mctp_net.specs.declared.packet.Packet.{Packet}
use Rattle.mctp_net.specs.Grammar.{bit}

-- what one frame is: a request or a response on IPMB, or a packet on SMBus
pub data Value : Type 0 where
  Asks : Request → Value
  Tells : Response → Value
  Part : Packet → Value

-- how many numbers requests have on a bus: sequence numbers on IPMB, instances of PLDM on SMBus
abbrev pub circle : Bus → ℕ
circle Ipmb = 64
circle Smbus = 32

-- how many tags tell the messages of one endpoint apart
abbrev pub tags : ℕ
tags = 8

-- how many newer requests of the manager, once begun, make a frame too old
abbrev pub span : Bus → ℕ
span Ipmb = 32
span Smbus = tags

-- to and from these two-wire addresses and these endpoints
abbrev pub envelope : (to from to_eid from_eid : ℕ) → Bool → ℕ → Envelope
envelope to from to_eid from_eid owner tag =
    record { destination = to; source = from; destination_eid = to_eid; source_eid = from_eid; tag_owner = owner; tag = tag }

-- the packets of bytes from a place on, at most so many: each but the last carries 64 bytes
abbrev pub packets_from : (most place : ℕ) → Envelope → List ℕ → List Packet
packets_from zero place envelope bytes = []
packets_from (suc most) place envelope bytes =
    if nat_le (length bytes) 64 then record { envelope = envelope; start = place == 0; end = true; sequence = place; payload = bytes } ∷ []
    else record { envelope = envelope; start = place == 0; end = false; sequence = place; payload = take 64 bytes } ∷ packets_from most (suc place) envelope (drop 64 bytes)

-- the packets of a message, at most four; of a longer one none is sent
abbrev pub packets_of : Envelope → List ℕ → List Packet
packets_of envelope bytes = if nat_le (length bytes) 256 then packets_from 4 0 envelope bytes else []

-- ---- packets put together: those that wait are a list, each assembly's in the order in which they came

-- An assembly has a name: the source, whether that owns the tag, and the tag.
abbrev pub is_named : Envelope → Packet → Bool
is_named envelope packet = packet.envelope.source_eid == envelope.source_eid && bit packet.envelope.tag_owner == bit envelope.tag_owner && packet.envelope.tag == envelope.tag

-- the packets of its name that the packet joins: none where it's a start
abbrev pub joined : Packet → List Packet → List Packet
joined packet waits = if packet.start then [] else filter (is_named packet.envelope) waits

-- those of other names
abbrev pub others : Packet → List Packet → List Packet
others packet waits = filter (λ other. not (is_named packet.envelope other)) waits

-- the packet goes to this endpoint, or to whichever has the address
abbrev pub is_meant : ℕ → Packet → Bool
is_meant eid packet = packet.envelope.destination_eid == eid || packet.envelope.destination_eid == 0

-- The packet is taken: it's meant for the endpoint, starts or joins others, is the next of at most four, full or the last, and opens no ninth assembly.
abbrev pub is_taken : ℕ → Packet → List Packet → Bool
is_taken eid packet waits =
    is_meant eid packet && (((packet.start || nat_lt 0 (length (joined packet waits))) && nat_lt (length (joined packet waits)) 4) && (packet.sequence == length (joined packet waits)
    && ((packet.end || length packet.payload == 64) && (not packet.start || packet.end || nat_lt (length (filter (λ other. other.start) (others packet waits))) 8))))

-- What waits after it. The last packet of a message closes its assembly, and so does one that isn't taken.
abbrev pub waits_after : ℕ → Packet → List Packet → List Packet
waits_after eid packet waits =
    if is_meant eid packet then others packet waits ++ (if is_taken eid packet waits && not packet.end then joined packet waits ++ packet ∷ [] else []) else waits

-- the message that the packet ends
abbrev pub whole : Packet → List Packet → List ℕ
whole packet waits = flat_map (λ other. other.payload) (joined packet waits ++ packet ∷ [])
