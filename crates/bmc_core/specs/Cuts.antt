-- That the packets of a message are a cut of it, and the model's cut; and what a port does with all of them.
use Rattle.std.specs.Prelude.{◌≡◌, ℕ, ◌<◌, ◌≤◌, Bool, nat_le, nat_lt, ◌==◌, ◌||◌, ◌&&◌, List, [], ◌∷◌, length, map, if◌then◌else◌}
use Rattle.two_wire.specs.Sizes.{most_message_bytes}
use Rattle.mctp_net.specs.declared.packet.Packet.{Packet}
use Rattle.mctp_net.specs.declared.message.Message.{Message}
use Rattle.mctp_net.specs.Cut.{piece, IsCutOf}
use Rattle.mctp_net.specs.Sizes.{most_assemblies}
use Rattle.mctp_net.specs.Assembly.{Assemblies, name_of, open_beside, after as kept_after}
use Rattle.cfg_records.specs.declared.board_file.BoardFile.{BoardFile}
use Rattle.bmc_board.specs.State.{State}
use Rattle.model_bus.specs.Packet.{packets_of}
use Rattle.bmc_core.specs.Seen.{seen}
use Rattle.bmc_core.specs.Values.{parts_of}
use Rattle.bmc_core.specs.PortSteps.{PortState, stays, hears_message, hears_parts}

-- the packets of a message of at least one byte and at most `most_message_bytes` are a cut of it, and the model's cut
pub record PartsAreCuts : Type 0 where
  pub cut : (message : Message) → 0 < length message.body → length message.body ≤ most_message_bytes → IsCutOf message (parts_of message)
  pub seen_so : (message : Message) → map (λ (packet : Packet). seen (piece packet)) (parts_of message) ≡ packets_of message.body

-- what an assembler keeps after packets, one after another
abbrev pub kept_after_parts : ℕ → Assemblies → List Packet → Assemblies
kept_after_parts own kept [] = kept
kept_after_parts own kept (packet ∷ packets) = kept_after_parts own (kept_after own kept packet) packets

-- the port, with what it keeps after all packets of a message
abbrev pub kept_with_parts : PortState → Message → PortState
kept_with_parts port message = record port { kept = kept_after_parts port.eid port.kept (parts_of message) }

-- the message goes to the port's endpoint, or to whichever endpoint has the address
abbrev pub is_for : PortState → Message → Bool
is_for port message = message.envelope.destination_eid == port.eid || message.envelope.destination_eid == 0

-- the port has a slot for the message: the message has one packet, or fewer than eight assemblies of other names are open
abbrev pub has_slot : PortState → Message → Bool
has_slot port message = nat_le (length (parts_of message)) 1 || nat_lt (open_beside (name_of message.envelope) port.kept) most_assemblies

-- A port that takes all packets of a message, one after another, hears the message, if the message is for the port and has a slot. Otherwise it
-- hears nothing.
abbrev pub PartsAreHeard : Type 0
PartsAreHeard = (setup : BoardFile) (port : PortState) (before : State) (message : Message) → 0 < length message.body → length message.body ≤ most_message_bytes
    → hears_parts setup port before (parts_of message)
    ≡ (if is_for port message && has_slot port message then hears_message setup (kept_with_parts port message) before message else stays (kept_with_parts port message) before)
