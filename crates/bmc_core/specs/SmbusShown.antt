-- The model port that a port on the System Management Bus represents.
use Rattle.std.specs.Prelude.{◌≡◌, ℕ, ◌<◌, Bool, true, false, List, [], ◌∷◌, length, map, find, Option, Some, None, refl}
use Rattle.mctp_net.specs.declared.fault.PacketFault.{PacketFault}
use Rattle.mctp_net.specs.declared.packet.Envelope.{Envelope}
use Rattle.mctp_net.specs.declared.packet.Packet.{Packet}
use Rattle.mctp_net.specs.Assembly.{Assemblies, message_of}
use Rattle.mctp_net.specs.Control.{reply_to as control_reply_to, eid_after}
use Rattle.mctp_net.specs.Grammar.{IsPacket, has_fault, faults}
use Rattle.mctp_net.specs.Places.{KeptAssembly as Places, seen}
use Rattle.record_base.specs.declared.message.Answered.{Answered}
use Rattle.cfg_records.specs.declared.board_file.BoardFile.{BoardFile}
use Rattle.model_bus.specs.Bytes.{pldm_message_type}
use Rattle.model_bus.specs.Request.{Kept, Entry, Carried, Idled}
use Rattle.model_bus.specs.Numbering.{is_above}
use Rattle.model_bus.specs.Carried.{Outcome, Repeats, IsBusy, IsNew, outcome}
use Rattle.bmc_core.specs.Keeps.{Reading, HeldWindows, WindowsKeep}
use Rattle.bmc_board.specs.declared.board.Board.{Board}
use Rattle.bmc_board.specs.State.{State, state_of}
use Rattle.bmc_core.specs.Values.{Value, Part, written}
use Rattle.bmc_core.specs.PortSteps.{PortState, StepResult, stays, hears, quiet_port}
use Rattle.bmc_core.specs.declared.out.Out.{Out}
use Rattle.bmc_core.specs.declared.out.Disposition.{Disposition}
use Rattle.bmc_core.specs.declared.out.Disposition.TheVariants as done
use Rattle.bmc_core.specs.declared.out.Reason.TheVariants as reason
use Rattle.bmc_core.specs.declared.port.At.{At}
use Rattle.bmc_core.specs.declared.step.Step.{Step}
use Rattle.bmc_core.specs.declared.step.Step.TheVariants as step
use Rattle.bmc_core.specs.declared.smbus_port.pending.SmbusPending.{SmbusPending}
use Rattle.bmc_core.specs.declared.smbus_port.SmbusPort.{SmbusPort}
use Rattle.two_wire.specs.Circles.{instances}
use Rattle.two_wire.specs.declared.Bus.TheVariants.{Smbus}
use Rattle.bmc_core.specs.Outs.{sends, ignored, waiting, ReadBack}
use Rattle.bmc_core.specs.SmbusHeard.{InMessage, HeardMessage, Ignored, Waiting, Control, Asks, taken, heard_in, asking, asks, found_in, busy_reply, kept_with, done_of, reply_parts, Effect, effect, message_heard, message_in}

-- ---- what a port shows

-- How the windows keep a request and its reply: the request without its type byte, with the ignored bit 0, and the reply whole.
abbrev pub pldm_reading : Reading
pldm_reading = record { request = λ bytes. pldm_message_type ∷ bytes; reply = λ bytes. bytes; same = λ one other. refl }

-- each reply that was kept has some bytes
abbrev pub AreReplies : List Entry → Type 0
AreReplies [] = Unit {0}
AreReplies (Carried kept ∷ log) = (0 < length kept.reply) × AreReplies log
AreReplies (Idled requester ∷ log) = AreReplies log

-- the windows keep what this log leaves
pub record WindowsHold (windows : HeldWindows) (log : List Entry) : Type 0 where
  pub kept : WindowsKeep instances pldm_reading windows log
  pub replies : AreReplies log

-- the port represents this model port
pub record Represents (port : SmbusPort) (at : PortState) : Type 0 where
  pub wire : at.wire ≡ port.wire
  pub eid : at.eid ≡ port.endpoint
  pub kept : at.kept ≡ seen port.assembler
  pub log : WindowsHold port.windows at.log

-- this holds of each model port at this address, with this endpoint, at which these packets wait
abbrev pub ForPortsAt : (wire eid : ℕ) → (waits : Assemblies) → (Holds : PortState → Type 0) → Type 0
ForPortsAt wire eid waits Holds = (at : PortState) → at.wire ≡ wire → at.eid ≡ eid → at.kept ≡ waits → Holds at

-- ---- what a port does with the bytes that it hears

-- The bytes have a fault, or they are one packet. The relation holds of the model port that has taken the packet, and of what the port hears.
pub record HearingOf (port : PortState) (bytes : List ℕ) (Holds : PortState → HeardMessage → Type 0) : Type 0 where
  pub faulty : (fault : PacketFault) → find (has_fault bytes) faults ≡ Some fault → Holds port (Ignored (reason.Packet fault))
  pub packet : (packet : Packet) → IsPacket packet bytes → Holds (taken port packet) (heard_in port packet)

-- The port then shows the effect's port, and sends the effect's packets. A reader of each packet's bytes gives the packet. `Out` names what was done.
pub record HasEffect (next : SmbusPort) (out : Out) (effect : Effect) (what : Disposition) : Type 0 where
  pub shows : Represents next effect.port
  pub sent : out ≡ sends (map written effect.sent) what
  pub read : ReadBack Smbus effect.sent

-- the effect of what the port heard, where the board would give this answer
abbrev pub HasMessageEffect : SmbusPort → Out → PortState → HeardMessage → Answered → Type 0
HasMessageEffect next out port heard answered = HasEffect next out (effect port heard answered) (done_of port heard)

-- the request that waits for its answer
abbrev pub request_in : SmbusPending → InMessage
request_in pending = record { envelope = pending.envelope; request = record { header = pending.header; body = pending.body } }

-- the request, as it waits for its answer
abbrev pub pending_of : InMessage → SmbusPending
pending_of asking = record { envelope = asking.envelope; header = asking.request.header; body = asking.request.body }

-- A port answers a request that it heard, with this answer. For each model port that it represents, it has the effect of the request at the model port.
abbrev pub AnswerStep : SmbusPort → SmbusPending → Answered → SmbusPort → Out → Type 0
AnswerStep port pending answered next out = (at : PortState) → Represents port at → HasMessageEffect next out at (Asks (request_in pending)) answered

-- A request that is given is new. Where none is given, the board is asked nothing, and the port has the effect of what it heard, whatever the board
-- would answer.
abbrev pub IsAskedRequest : SmbusPort → Out → Option InMessage → PortState → HeardMessage → Type 0
IsAskedRequest next out (Some asking) port heard = (asks port heard ≡ Some asking) × Represents next port
IsAskedRequest next out None port heard = (asks port heard ≡ None) × ((answered : Answered) → HasMessageEffect next out port heard answered)

-- A message of this envelope and body is heard at each model port at this address, with this endpoint before and that endpoint after, and with
-- these windows: a new request is given.
abbrev pub GivesHeard : (wire : ℕ) → HeldWindows → (before after : ℕ) → Envelope → (body : List ℕ) → Out → Option InMessage → Type 0
GivesHeard wire windows before after envelope body out given = (at : PortState) (next : SmbusPort) → at.wire ≡ wire → at.eid ≡ before
    → WindowsHold windows at.log → Represents next (record at { eid = after }) → IsAskedRequest next out given at (message_in envelope body)

-- the caller's next step: it asks the board a new request
abbrev pub IsStep : SmbusPort → Out → Step SmbusPending → PortState → HeardMessage → Type 0
IsStep next out (step.Ask pending) port heard = IsAskedRequest next out (Some (request_in pending)) port heard
IsStep next out step.Done port heard = IsAskedRequest next out None port heard

-- a port hears the bytes up to where the caller asks the board: so it is for each model port that the port represents
abbrev pub AskingStep : SmbusPort → List ℕ → SmbusPort → Out → Step SmbusPending → Type 0
AskingStep port bytes next out given = (at : PortState) → Represents port at → HearingOf at bytes (IsStep next out given)

-- The port and the board are then those of the deed, and the port sends the deed's packets. A reader of each packet's bytes gives the packet. `Out`
-- names what was done.
pub record IsStepResult (next : SmbusPort) (out : Out) (after : State) (deed : StepResult) (what : Disposition) : Type 0 where
  pub shows : Represents next deed.port
  pub sent : out ≡ sends (map written deed.sent) what
  pub read : ReadBack Smbus deed.sent
  pub left : after ≡ deed.board

-- A port of a board with this setup hears the bytes. The port and the board do what the model port and board do with the packet. Bytes that are no
-- packet change nothing.
pub record HearsBytes (setup : BoardFile) (port : PortState) (before : State) (bytes : List ℕ) (next : SmbusPort) (out : Out) (after : State) : Type 0 where
  pub faulty : (fault : PacketFault) → find (has_fault bytes) faults ≡ Some fault → IsStepResult next out after (stays port before) (done.Ignored (reason.Packet fault))
  pub packet : (packet : Packet) → IsPacket packet bytes → IsStepResult next out after (hears setup port before (Part packet)) (done_of (taken port packet) (heard_in port packet))

-- so it is for each model port that the port represents
abbrev pub PortStep : BoardFile → SmbusPort → State → List ℕ → Out → SmbusPort → State → Type 0
PortStep setup port before bytes out next after = (at : PortState) → Represents port at → HearsBytes setup at before bytes next out after

-- and so with this board before and that board after
abbrev pub PortStepOf : {S : Type 0} {g h : _} → Board S g h → SmbusPort → List ℕ → Out → SmbusPort → Board S g h → Type 0
PortStepOf board port bytes out next left = PortStep board.setup port (state_of board) bytes out next (state_of left)

-- ---- on the way there, with the endpoint apart from the windows

-- the packets of a reply to a message of this envelope, from this place, and their frames
abbrev pub parts_from : (wire eid : ℕ) → Envelope → List ℕ → List Value
parts_from wire eid envelope body = reply_parts (quiet_port wire eid) envelope body

abbrev pub frames_from : (wire eid : ℕ) → Envelope → List ℕ → List (List ℕ)
frames_from wire eid envelope body = map written (parts_from wire eid envelope body)

-- A port sends a reply of these bytes from a place to the sender of the envelope's message, and this was done. A reader of each packet's bytes gives
-- the packet.
pub record ReplyPackets (at : At) (to : Envelope) (body : List ℕ) (what : Disposition) (out : Out) : Type 0 where
  pub sent : out ≡ sends (frames_from at.wire at.eid to body) what
  pub read : ReadBack Smbus (parts_from at.wire at.eid to body)

-- and the reply is that of this answer to the request
abbrev pub RepliesWith : At → InMessage → Answered → Out → Type 0
RepliesWith at asking answered out = ReplyPackets at asking.envelope (kept_with asking answered).reply done.Answered out

-- a new request was kept with its reply
abbrev pub KeepsNewReply : HeldWindows → Kept → HeldWindows → Type 0
KeepsNewReply old kept new = (log : List Entry) → WindowsHold old log → outcome (is_above instances) kept.request log ≡ IsNew → WindowsHold new (Carried kept ∷ log)

-- a new request was kept with these bytes as its reply
abbrev pub KeepsReply : HeldWindows → InMessage → List ℕ → HeldWindows → Type 0
KeepsReply old message reply new = KeepsNewReply old (record { request = asking message; reply = reply }) new

-- What a port makes of what it heard: it gives a request, and answers a control message. The endpoint then has this identifier. A reader of each
-- packet's bytes gives the packet.
abbrev pub HasHeard : (wire eid : ℕ) → HeardMessage → ℕ → Out → Option InMessage → Type 0
HasHeard wire eid (Ignored why) next out given = (next ≡ eid) × (out ≡ ignored why) × (given ≡ None)
HasHeard wire eid Waiting next out given = (next ≡ eid) × (out ≡ waiting) × (given ≡ None)
HasHeard wire eid (Control envelope request) next out given =
    (next ≡ eid_after eid request.command request.content) × (out ≡ sends (frames_from wire next envelope (control_reply_to eid request)) done.Control) × (given ≡ None)
    × ReadBack Smbus (parts_from wire next envelope (control_reply_to eid request))
HasHeard wire eid (Asks request) next out given = (next ≡ eid) × (given ≡ Some request)

-- The port hears in a packet the message that the packet ends, if any. Else the endpoint keeps its identifier, and `Out` has what the port sends.
abbrev pub IsPart : PortState → Packet → HeardMessage → Out → (whole : Bool) → Type 0
IsPart port packet heard out true = heard ≡ message_heard (message_of port.kept packet)
IsPart port packet heard out false = HasHeard port.wire port.eid heard port.eid out None

-- a packet was taken
pub record HasTaken (port : PortState) (packet : Packet) (left : Assemblies) (out : Out) (whole : Bool) : Type 0 where
  pub kept : left ≡ (taken port packet).kept
  pub heard : IsPart (taken port packet) packet (heard_in port packet) out whole

-- so it is at each model port at this address, with this endpoint, at which what these places have waits
abbrev pub TakesAt : (wire eid : ℕ) → Places → Packet → Places → Out → (whole : Bool) → Type 0
TakesAt wire eid before packet after out whole = ForPortsAt wire eid (seen before) (λ at. HasTaken at packet (seen after) out whole)

-- A port read a packet in the bytes that ends a message, and hears that message; or it hears no request, and `Out` has what the port sends. These
-- assemblies then wait.
abbrev pub MessageRead : PortState → List ℕ → Assemblies → Out → Option Packet → Type 0
MessageRead port bytes left out (Some packet) = HearingOf port bytes (λ now h. (now ≡ record port { kept = left }) × (h ≡ message_heard (message_of left packet)))
MessageRead port bytes left out None = HearingOf port bytes (λ now h. (now ≡ record port { kept = left }) × HasHeard port.wire port.eid h port.eid out None)

-- so it is at each model port at this address, with this endpoint, at which what these places have waits
abbrev pub ReadsAt : (wire eid : ℕ) → Places → List ℕ → Places → Out → Option Packet → Type 0
ReadsAt wire eid before bytes after out packet = ForPortsAt wire eid (seen before) (λ at. MessageRead at bytes (seen after) out packet)

-- The port has answered a request that repeats another, or for which it has no window, by these packets, and hasn't answered a new one. A reader of
-- each packet's bytes gives the packet.
abbrev pub IsSettled : Outcome → (busy : List ℕ) → (List ℕ → List Value) → Out → Out → Bool → Type 0
IsSettled (Repeats reply) busy parts before out settled = (settled ≡ true) × (out ≡ sends (map written (parts reply)) done.Repeated) × ReadBack Smbus (parts reply)
IsSettled IsBusy busy parts before out settled = (settled ≡ true) × (out ≡ sends (map written (parts busy)) done.Busy) × ReadBack Smbus (parts busy)
IsSettled IsNew busy parts before out settled = (settled ≡ false) × (out ≡ before)

-- the port has settled a request at this place so, whatever log the windows keep
abbrev pub SettlesRequest : At → HeldWindows → InMessage → Out → Out → Bool → Type 0
SettlesRequest at windows asking before out settled = (log : List Entry) → WindowsHold windows log
    → IsSettled (found_in log asking) (busy_reply asking) (parts_from at.wire at.eid asking.envelope) before out settled
