-- A message as packets.
use Rattle.std.specs.Prelude.{◌≡◌, ℕ, zero, suc, ◌≤◌, Bool, true, false, ◌==◌, nat_le, List, [], ◌∷◌, ◌++◌, length, take, drop, if◌then◌else◌}
use Rattle.two_wire.specs.Sizes.{most_message_bytes}
use Rattle.model_bus.specs.Repeat.{In}

-- what an assembly looks at in a packet: the marks of start and end, the sequence number and the payload
pub record Packet : Type 0 where
  pub first : Bool
  pub last : Bool
  pub sequence : ℕ
  pub payload : List ℕ

-- how many bytes of a message each packet carries but the last, which may carry fewer
abbrev pub unit_size : ℕ
unit_size = 64

-- The packets are the bytes, cut: numbered from the place on, all but the last of `unit_size` bytes; the one at place 0 is the
-- start, the last is the end.
abbrev pub IsCutFrom : ℕ → List Packet → List ℕ → Type 0
IsCutFrom place [] bytes = ⊥
IsCutFrom place (packet ∷ []) bytes = (packet.sequence ≡ place) × (packet.first ≡ (place == 0)) × (packet.last ≡ true) × (packet.payload ≡ bytes)
IsCutFrom place (packet ∷ next ∷ packets) bytes =
    (packet.sequence ≡ place) × (packet.first ≡ (place == 0)) × (packet.last ≡ false) × (length packet.payload ≡ unit_size)
    × (rest : List ℕ) × (bytes ≡ packet.payload ++ rest) × IsCutFrom (suc place) (next ∷ packets) rest

-- a message's packets: at most four
abbrev pub IsCut : List Packet → List ℕ → Type 0
IsCut ps bytes = (length ps ≤ 4) × IsCutFrom 0 ps bytes

-- a way to cut messages: what is sent of a message is its cut; of one that can't be cut nothing is sent
abbrev pub IsCutting : (List ℕ → List Packet) → Type 0
IsCutting split = (bytes : List ℕ) (packet : Packet) → In packet (split bytes) → IsCut (split bytes) bytes

-- the packets of bytes from a place on, at most so many
abbrev pub packets_from : ℕ → ℕ → List ℕ → List Packet
packets_from zero place bytes = []
packets_from (suc left) place bytes =
    if nat_le (length bytes) unit_size
    then record { first = place == 0; last = true; sequence = place; payload = bytes } ∷ []
    else record { first = place == 0; last = false; sequence = place; payload = take unit_size bytes } ∷ packets_from left (suc place) (drop unit_size bytes)

-- the way that there is: up to `most_message_bytes` in runs of `unit_size`
abbrev pub packets_of : List ℕ → List Packet
packets_of bytes = if nat_le (length bytes) most_message_bytes then packets_from 4 0 bytes else []

-- each message of at most `most_message_bytes` has a cut, of packets of at most `unit_size` bytes
abbrev pub CutsAll : (List ℕ → List Packet) → Type 0
CutsAll split = (bytes : List ℕ) → length bytes ≤ most_message_bytes → IsCut (split bytes) bytes × ((packet : Packet) → In packet (split bytes) → length packet.payload ≤ unit_size)
