-- Messages cut into packets.
use Rattle.std.specs.Prelude.{◌≡◌, ℕ, ◌+◌, ◌<◌, ◌≤◌, ◌==◌, Bool, List, [], ◌∷◌, length, map, All}
use Rattle.std.specs.List.{flat_map, AllZip}
use Rattle.mctp_net.specs.declared.packet.Packet.{Packet}
use Rattle.mctp_net.specs.declared.message.Message.{Message}
use Rattle.mctp_net.specs.Sizes.{unit_size}
use Rattle.mctp_net.specs.Grammar.{IsSpelled}

-- what a packet is to its message: the marks of start and end, the sequence number and the bytes that it carries
pub record Piece : Type 0 where
  pub start : Bool
  pub end : Bool
  pub sequence : ℕ
  pub payload : List ℕ

-- the piece that a packet is
abbrev pub piece : Packet → Piece
piece packet = record { start = packet.start; end = packet.end; sequence = packet.sequence; payload = packet.payload }

-- the piece is the one of this number, of so many
pub record IsPiece (count number : ℕ) (piece : Piece) : Type 0 where
  pub numbered : piece.sequence ≡ number
  pub started : piece.start ≡ (number == 0)
  pub ended : piece.end ≡ (number + 1 == count)
  pub some : 0 < length piece.payload
  pub fits : length piece.payload ≤ unit_size
  pub full : number + 1 < count → length piece.payload ≡ unit_size

-- each piece meets the relation with its number, where the first piece has this number
abbrev pub EachFrom : (ℕ → Piece → Type 0) → ℕ → List Piece → Type 0
EachFrom Holds number [] = Unit {0}
EachFrom Holds number (piece ∷ pieces) = Holds number piece × EachFrom Holds (number + 1) pieces

-- the bytes that the pieces carry
abbrev pub carried : List Piece → List ℕ
carried ps = flat_map (λ piece. piece.payload) ps

-- The pieces are a cut of the bytes: at most four runs, all but the last of a unit, numbered from 0, the first marked
-- as start and the last as end.
pub record IsCut (body : List ℕ) (ps : List Piece) : Type 0 where
  pub some : 0 < length ps
  pub few : length ps ≤ 4
  pub pieces : EachFrom (IsPiece (length ps)) 0 ps
  pub joined : body ≡ carried ps

-- the packets are the message's
pub record IsCutOf (message : Message) (ps : List Packet) : Type 0 where
  pub cut : IsCut message.body (map piece ps)
  pub enveloped : All (λ packet. packet.envelope ≡ message.envelope) ps

-- the frames are the packets, each with the ignored bits 0
abbrev pub AreWritten : List Packet → List (List ℕ) → Type 0
AreWritten ps frames = AllZip (λ packet frame. IsSpelled packet 0 frame) ps frames
