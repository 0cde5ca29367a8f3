-- What holds of what an assembler keeps.
use Rattle.std.specs.Prelude.{◌≡◌, ℕ, ◌==◌, ◌<◌, ◌≤◌, true, false, length}
use Rattle.mctp_net.specs.Sizes.{unit_size, most_assemblies}
use Rattle.mctp_net.specs.declared.packet.Name.{Name}
use Rattle.mctp_net.specs.declared.packet.Packet.{Packet}
use Rattle.mctp_net.specs.Cut.{Piece, EachFrom}
use Rattle.mctp_net.specs.Assembly.{Assemblies, name_of, joined_to, open_beside}

-- the piece waits at this place of its assembly
pub record IsWaitingAt (number : ℕ) (piece : Piece) : Type 0 where
  pub numbered : piece.sequence ≡ number
  pub started : piece.start ≡ (number == 0)
  pub ended : piece.end ≡ false
  pub full : length piece.payload ≡ unit_size

-- under each name the pieces are the first of a cut, at most four, and at most eight assemblies are open
pub record AreSoundAssemblies (assemblies : Assemblies) : Type 0 where
  pub fronts : (name : Name) → EachFrom IsWaitingAt 0 (assemblies.under name)
  pub few : (name : Name) → length (assemblies.under name) ≤ 4
  pub slots : assemblies.open_count ≤ most_assemblies

-- the packet has the next place of the assembly to which it's joined, and there is room for it
pub record FitsAssembly (assemblies : Assemblies) (packet : Packet) : Type 0 where
  pub few : length (joined_to packet assemblies) < 4
  pub numbered : packet.sequence ≡ length (joined_to packet assemblies)
  pub started : packet.start ≡ (length (joined_to packet assemblies) == 0)
  pub full : packet.end ≡ false → length packet.payload ≡ unit_size
  pub slots : packet.start ≡ true → packet.end ≡ false → open_beside (name_of packet.envelope) assemblies < most_assemblies
