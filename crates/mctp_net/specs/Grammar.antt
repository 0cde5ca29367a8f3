-- Packets of the System Management Bus.
use Rattle.std.specs.Prelude.{◌≡◌, ℕ, ◌+◌, ◌-◌, ◌*◌, ◌%◌, ◌<◌, ◌≤◌, List, [], ◌∷◌, ◌++◌, length, take, slice_index, Bool, nat_lt, ◌==◌, ◌||◌, not, if◌then◌else◌, codes, find, Some}
use Rattle.two_wire.specs.Circles.{tags}
use Rattle.two_wire.specs.Pec.{pec}
use Rattle.mctp_net.specs.declared.fault.PacketFault.{PacketFault}
use Rattle.mctp_net.specs.declared.fault.PacketFault.TheVariants.{Short, NotMctp, Count, Pec, Version}
use Rattle.mctp_net.specs.declared.packet.Envelope.{Envelope}
use Rattle.mctp_net.specs.declared.packet.Packet.{Packet}
use Rattle.mctp_net.specs.Sizes.{unit_size}

-- a flag as a number
abbrev pub bit : Bool → ℕ
bit flag = if flag then 1 else 0

-- the flags, from the highest bit down: start, end, two bits of sequence, tag owner, three bits of tag
abbrev pub flags_of : Packet → ℕ
flags_of packet = 128 * bit packet.start + 64 * bit packet.end + 16 * packet.sequence + 8 * bit packet.envelope.tag_owner + packet.envelope.tag

-- the bytes before the packet error code, where the ignored bits of the version byte are these
abbrev pub unchecked : Packet → ℕ → List ℕ
unchecked packet ignored =
    packet.envelope.destination ∷ 15 ∷ (5 + length packet.payload) ∷ (packet.envelope.source + 1) ∷ (16 * ignored + 1)
    ∷ packet.envelope.destination_eid ∷ packet.envelope.source_eid ∷ flags_of packet ∷ packet.payload

-- bytes, and behind them their packet error code
abbrev pub with_pec : List ℕ → List ℕ
with_pec bytes = bytes ++ pec bytes ∷ []

-- the fields are in their ranges
pub record IsEnvelope (envelope : Envelope) : Type 0 where
  pub destination : (envelope.destination < 256) × (envelope.destination % 2 ≡ 0)
  pub source : (envelope.source < 256) × (envelope.source % 2 ≡ 0)
  pub destination_eid : envelope.destination_eid < 256
  pub source_eid : envelope.source_eid < 256
  pub tag : envelope.tag < tags

-- the bytes are the packet, with these ignored bits
pub record IsSpelled (packet : Packet) (ignored : ℕ) (bytes : List ℕ) : Type 0 where
  pub envelope : IsEnvelope packet.envelope
  pub sequence : packet.sequence < 4
  pub some : 0 < length packet.payload
  pub fits : length packet.payload ≤ unit_size
  pub spelled : bytes ≡ with_pec (unchecked packet ignored)

-- the bytes are the packet
abbrev pub IsPacket : Packet → List ℕ → Type 0
IsPacket packet bytes = (ignored : ℕ) × (ignored < 16) × IsSpelled packet ignored bytes

-- the bytes have the fault
abbrev pub has_fault : List ℕ → PacketFault → Bool
has_fault bytes Short = nat_lt (length bytes) 10
has_fault bytes NotMctp = not (slice_index bytes 1 == 15) || slice_index bytes 0 % 2 == 1 || slice_index bytes 3 % 2 == 0
has_fault bytes Count = not (slice_index bytes 2 + 4 == length bytes) || nat_lt 73 (length bytes)
has_fault bytes Pec = not (pec (take (length bytes - 1) bytes) == slice_index bytes (length bytes - 1))
has_fault bytes Version = not (slice_index bytes 4 % 16 == 1)

-- the faults in their order
abbrev pub faults : List PacketFault
faults = Short ∷ NotMctp ∷ Count ∷ Pec ∷ Version ∷ []

-- the bytes have a fault, and this is the first
abbrev pub HasFault : List ℕ → Type 0
HasFault bytes = (fault : PacketFault) × (find (has_fault bytes) faults ≡ Some fault)

-- what a fault is called
abbrev pub fault_name : PacketFault → List ℕ
fault_name Short = codes "Short"
fault_name NotMctp = codes "NotMctp"
fault_name Count = codes "Count"
fault_name Pec = codes "Pec"
fault_name Version = codes "Version"
