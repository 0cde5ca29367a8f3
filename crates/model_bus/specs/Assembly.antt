-- The assembly of packets at one end of the bus.
use Rattle.std.specs.Prelude.{ℕ, Bool, ◌==◌, nat_lt, ◌&&◌, ◌||◌, not, List, [], ◌∷◌, ◌++◌, length, if◌then◌else◌}
use Rattle.model_bus.specs.Packet.{Packet, unit_size}

-- an assembly's name: where its packets come from, their tag owner bit and their tag
pub record Name : Type 0 where
  pub source : ℕ
  pub owner : Bool
  pub tag : ℕ

-- two names are the same: equal source, tag owner bit and tag
abbrev pub is_name : Name → Name → Bool
is_name name other = ((name.source == other.source) && (if name.owner then other.owner else not other.owner)) && (name.tag == other.tag)

-- a packet that was sent: with the request whose message, or reply, it is a part of, and the idles of its frame
pub record SentPacket : Type 0 where
  pub request : ℕ
  pub idles : ℕ
  pub packet : Packet

-- what an end does with a packet
pub data Step : Type 0 where
  -- it waits in its assembly
  Waits : Step
  -- it ends one: these are the packets, in order
  Whole : List SentPacket → Step
  Drops : Step

-- What an end does with a packet, and which packets wait then under its name. It drops the packet and all that wait where four wait, where the
-- packet's sequence isn't its place, or where the packet isn't the end and hasn't `unit_size` bytes.
abbrev pub joined : List SentPacket → SentPacket → Step × List SentPacket
joined taken sent =
    if nat_lt 3 (length taken) || not (sent.packet.sequence == length taken) then (Drops, [])
    else if sent.packet.last then (Whole (taken ++ sent ∷ []), [])
    else if not (length sent.packet.payload == unit_size) then (Drops, [])
    else (Waits, taken ++ sent ∷ [])

-- a start opens an assembly anew; any other packet needs an open assembly, and is dropped where none is open
abbrev pub takes : List SentPacket → SentPacket → Step × List SentPacket
takes [] sent = if sent.packet.first then joined [] sent else (Drops, [])
takes (sent ∷ sents) sending = if sending.packet.first then joined [] sending else joined (sent ∷ sents) sending

-- the packets that a packet is joined to, if the packet is taken
abbrev pub waiting : List SentPacket → SentPacket → List SentPacket
waiting taken sent = if sent.packet.first then [] else taken

-- a message is complete
abbrev pub IsWhole : Step → Type 0
IsWhole (Whole ss) = Unit {0}
IsWhole Waits = ⊥
IsWhole Drops = ⊥

-- the packet is taken
abbrev pub IsJoined : Step → Type 0
IsJoined (Whole ss) = Unit {0}
IsJoined Waits = Unit {0}
IsJoined Drops = ⊥

-- the request of the first packet, in which a message's number stands, or `request` where there is no packet
abbrev pub first_request : ℕ → List SentPacket → ℕ
first_request request [] = request
first_request request (sent ∷ sents) = sent.request

-- the bytes of packets, joined
abbrev pub message_of : List SentPacket → List ℕ
message_of [] = []
message_of (sent ∷ sents) = sent.packet.payload ++ message_of sents
