-- Messages put together from packets.
use Rattle.std.specs.Prelude.{◌≡◌, ℕ, ◌+◌, ◌-◌, ◌==◌, ◌||◌, ◌&&◌, Bool, true, not, nat_lt, nat_le, if◌then◌else◌, List, [], ◌∷◌, ◌++◌, length, find, Option, Some, None, false, codes}
use Rattle.mctp_net.specs.declared.packet.Name.{Name}
use Rattle.mctp_net.specs.declared.packet.Envelope.{Envelope}
use Rattle.mctp_net.specs.declared.packet.Packet.{Packet}
use Rattle.mctp_net.specs.declared.message.Message.{Message}
use Rattle.mctp_net.specs.declared.taken.DropCause.{DropCause}
use Rattle.mctp_net.specs.declared.taken.DropCause.TheVariants.{NotOurs, NoStart, TooLong, OutOfSequence, UnitSize, NoSlot}
use Rattle.mctp_net.specs.declared.taken.Taken.{Taken}
use Rattle.mctp_net.specs.declared.taken.Taken.TheVariants as taken
use Rattle.mctp_net.specs.Sizes.{unit_size, most_assemblies}
use Rattle.mctp_net.specs.Grammar.{bit}
use Rattle.mctp_net.specs.Cut.{Piece, piece, carried, IsCut}

-- a message's name: source endpoint, tag owner and tag
abbrev pub name_of : Envelope → Name
name_of envelope = record { source_eid = envelope.source_eid; tag_owner = envelope.tag_owner; tag = envelope.tag }

-- two names are the same
abbrev pub is_name : Name → Name → Bool
is_name name other = name.source_eid == other.source_eid && bit name.tag_owner == bit other.tag_owner && name.tag == other.tag

-- What an assembler keeps: the pieces that wait under each name, and how many names have some; and the bytes of the message that the
-- last packet ended, where several packets made it.
pub record Assemblies : Type 0 where
  pub under : Name → List Piece
  pub open_count : ℕ
  pub made : List ℕ

-- nothing is open
abbrev pub nothing : Assemblies
nothing = record { under = λ name. []; open_count = 0; made = [] }

-- pieces wait
abbrev pub is_open : List Piece → Bool
is_open ps = nat_lt 0 (length ps)

-- the pieces that wait under the packet's name
abbrev pub taken_under : Packet → Assemblies → List Piece
taken_under packet assemblies = assemblies.under (name_of packet.envelope)

-- the pieces to which the packet is joined: none where it is a start, which closes the open assembly of its name
abbrev pub joined_to : Packet → Assemblies → List Piece
joined_to packet assemblies = if packet.start then [] else taken_under packet assemblies

-- how many assemblies of other names are open
abbrev pub open_beside : Name → Assemblies → ℕ
open_beside name assemblies = assemblies.open_count - bit (is_open (assemblies.under name))

-- the packet goes to this endpoint, or to whichever has the address
abbrev pub is_ours : ℕ → Packet → Bool
is_ours own packet = packet.envelope.destination_eid == own || packet.envelope.destination_eid == 0

-- the packet is dropped for this cause, if for no earlier one
abbrev pub fails : ℕ → Assemblies → Packet → DropCause → Bool
fails own assemblies packet NotOurs = not (is_ours own packet)
fails own assemblies packet NoStart = not packet.start && length (taken_under packet assemblies) == 0
fails own assemblies packet TooLong = nat_le 4 (length (joined_to packet assemblies))
fails own assemblies packet OutOfSequence = not (packet.sequence == length (joined_to packet assemblies))
fails own assemblies packet UnitSize = not packet.end && not (length packet.payload == unit_size)
fails own assemblies packet NoSlot = packet.start && not packet.end && nat_le most_assemblies (open_beside (name_of packet.envelope) assemblies)

-- the causes in their order
abbrev pub causes : List DropCause
causes = NotOurs ∷ NoStart ∷ TooLong ∷ OutOfSequence ∷ UnitSize ∷ NoSlot ∷ []

-- what a cause is called
abbrev pub cause_name : DropCause → List ℕ
cause_name NotOurs = codes "NotOurs"
cause_name NoStart = codes "NoStart"
cause_name TooLong = codes "TooLong"
cause_name OutOfSequence = codes "OutOfSequence"
cause_name UnitSize = codes "UnitSize"
cause_name NoSlot = codes "NoSlot"

-- the first cause to drop the packet
abbrev pub drop_cause : ℕ → Assemblies → Packet → Option DropCause
drop_cause own assemblies packet = find (fails own assemblies packet) causes

-- the same, but that these pieces wait under the name
abbrev pub with_under : Name → List Piece → Assemblies → Assemblies
with_under name ps assemblies = record {
  under = λ other. if is_name other name then ps else assemblies.under other;
  open_count = open_beside name assemblies + bit (is_open ps);
  made = [];
}

-- the same, and nothing was made
abbrev pub unmade : Assemblies → Assemblies
unmade assemblies = record { under = assemblies.under; open_count = assemblies.open_count; made = [] }

-- the assembly of the packet's name is closed
abbrev pub closed : Packet → Assemblies → Assemblies
closed packet assemblies = with_under (name_of packet.envelope) [] assemblies

-- the packet waits behind those to which it's joined
abbrev pub kept_with : Packet → Assemblies → Assemblies
kept_with packet assemblies = with_under (name_of packet.envelope) (joined_to packet assemblies ++ piece packet ∷ []) assemblies

-- the packet ends its message, whose assembly is closed; a message of one packet lies in its packet
abbrev pub ended : Packet → Assemblies → Assemblies
ended packet assemblies = record {
  under = (closed packet assemblies).under;
  open_count = (closed packet assemblies).open_count;
  made = if packet.start then [] else carried (taken_under packet assemblies ++ piece packet ∷ []);
}

-- what is kept after a packet, where it's dropped for the cause or for none
abbrev pub after_where : Option DropCause → Packet → Assemblies → Assemblies
after_where (Some NotOurs) packet assemblies = unmade assemblies
after_where (Some NoStart) packet assemblies = unmade assemblies
after_where (Some TooLong) packet assemblies = closed packet assemblies
after_where (Some OutOfSequence) packet assemblies = closed packet assemblies
after_where (Some UnitSize) packet assemblies = closed packet assemblies
after_where (Some NoSlot) packet assemblies = closed packet assemblies
after_where None packet assemblies = if packet.end then ended packet assemblies else kept_with packet assemblies

-- what is kept after a packet
abbrev pub after : ℕ → Assemblies → Packet → Assemblies
after own assemblies packet = after_where (drop_cause own assemblies packet) packet assemblies

-- what waits under the packet's name after it, where it's dropped for the cause or for none
abbrev pub named_where : Option DropCause → Packet → Assemblies → List Piece
named_where (Some NotOurs) packet assemblies = taken_under packet assemblies
named_where (Some NoStart) packet assemblies = taken_under packet assemblies
named_where (Some TooLong) packet assemblies = []
named_where (Some OutOfSequence) packet assemblies = []
named_where (Some UnitSize) packet assemblies = []
named_where (Some NoSlot) packet assemblies = []
named_where None packet assemblies = if packet.end then [] else joined_to packet assemblies ++ piece packet ∷ []

-- the message that the packet, the last that came, ended
abbrev pub message_of : Assemblies → Packet → Message
message_of assemblies packet = record { envelope = packet.envelope; body = if packet.start then packet.payload else assemblies.made }

-- with the pieces to which it's joined, the packet makes the message whole
pub record MakesWhole (own : ℕ) (assemblies : Assemblies) (packet : Packet) (message : Message) : Type 0 where
  pub ours : is_ours own packet ≡ true
  pub enveloped : message.envelope ≡ packet.envelope
  pub cut : IsCut message.body (joined_to packet assemblies ++ piece packet ∷ [])

-- the cause for which the packet was dropped, if it was
abbrev pub dropped_for : Taken → Option DropCause
dropped_for taken.Waiting = None
dropped_for taken.Whole = None
dropped_for (taken.Dropped cause) = Some cause

-- the packet is taken, and others are to come
pub record IsPieceTaken (own : ℕ) (assemblies : Assemblies) (packet : Packet) : Type 0 where
  pub kept_on : drop_cause own assemblies packet ≡ None
  pub more : packet.end ≡ false

-- the packets come one after another: each but the last is taken, and the last makes the message whole
abbrev pub ComesBack : ℕ → Assemblies → List Packet → Message → Type 0
ComesBack own assemblies [] message = ⊥
ComesBack own assemblies (packet ∷ []) message = MakesWhole own assemblies packet message
ComesBack own assemblies (packet ∷ next ∷ rest) message = IsPieceTaken own assemblies packet × ComesBack own (after own assemblies packet) (next ∷ rest) message
