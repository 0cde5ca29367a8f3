-- What an assembler keeps, as the model of the bus sees it.
use Rattle.std.specs.Prelude.{◌≡◌, Bool, true, false, List, [], map, Option, Some, None, ⊤}
use Rattle.mctp_net.specs.declared.packet.Name.{Name}
use Rattle.mctp_net.specs.declared.taken.DropCause.{DropCause}
use Rattle.mctp_net.specs.declared.taken.DropCause.TheVariants.{NotOurs, NoStart, TooLong, OutOfSequence, UnitSize, NoSlot}
use Rattle.mctp_net.specs.Cut.{Piece}
use Rattle.mctp_net.specs.Assembly.{Assemblies}
use Rattle.model_bus.specs.Packet.{Packet as ModelPacket}
use Rattle.model_bus.specs.Assembly.{Name as ModelName, SentPacket, Step, Waits, Whole, Drops, takes}
use Rattle.model_bus.specs.PacketBus.{set_at}

-- the packet of the model that a piece is
abbrev pub seen : Piece → ModelPacket
seen piece = record { first = piece.start; last = piece.end; sequence = piece.sequence; payload = piece.payload }

-- the name of the model that a name is
abbrev pub seen_name : Name → ModelName
seen_name name = record { source = name.source_eid; owner = name.tag_owner; tag = name.tag }

-- the model's packets are these pieces
abbrev pub AreSeen : List SentPacket → List Piece → Type 0
AreSeen ss ps = map (λ (sent : SentPacket). sent.packet) ss ≡ map seen ps

-- under each name the same packets wait in the model and at the assembler
abbrev pub WaitsAlike : (ModelName → List SentPacket) → Assemblies → Type 0
WaitsAlike port assemblies = (name : Name) → AreSeen (port (seen_name name)) (assemblies.under name)

-- What the model does with a packet to which these packets are joined, by the cause for which the assembler drops the packet, if it does. The model's
-- step says nothing of a packet that isn't the endpoint's, nor of a packet for which there is no slot.
abbrev pub AgreesWithJoin : Option DropCause → Bool → List SentPacket → Step × List SentPacket → Type 0
AgreesWithJoin (Some NotOurs) ends ss step = ⊤
AgreesWithJoin (Some NoSlot) ends ss step = ⊤
AgreesWithJoin (Some NoStart) ends ss step = step ≡ (Drops, [])
AgreesWithJoin (Some TooLong) ends ss step = step ≡ (Drops, [])
AgreesWithJoin (Some OutOfSequence) ends ss step = step ≡ (Drops, [])
AgreesWithJoin (Some UnitSize) ends ss step = step ≡ (Drops, [])
AgreesWithJoin None true ss step = step ≡ (Whole ss, [])
AgreesWithJoin None false ss step = step ≡ (Waits, ss)

-- The packets that wait in the model after the packet. A packet that isn't the endpoint's is no event; a packet for which there is no slot closes the
-- assembly of its name; the model takes any other packet.
abbrev pub model_after : Option DropCause → ModelName → SentPacket → (ModelName → List SentPacket) → ModelName → List SentPacket
model_after (Some NotOurs) name sent port = port
model_after (Some NoSlot) name sent port = set_at name [] port
model_after (Some NoStart) name sent port = set_at name (takes (port name) sent).1 port
model_after (Some TooLong) name sent port = set_at name (takes (port name) sent).1 port
model_after (Some OutOfSequence) name sent port = set_at name (takes (port name) sent).1 port
model_after (Some UnitSize) name sent port = set_at name (takes (port name) sent).1 port
model_after None name sent port = set_at name (takes (port name) sent).1 port
