-- What a port on the System Management Bus does is what the lab's does.
use Rattle.std.proofs.Common.{◌≡◌, ℕ, ◌<◌, Bool, true, false, cond, List, [], ◌∷◌, length, find, Option, Some, None, Result, Ok, Err, refl, sym, ◌∙◌, ap, subst, arith}
use Rattle.std.specs.Prelude.{◌==◌}
use Rattle.std.specs.Option.{option_map, option_map_or}
use Rattle.two_wire.specs.declared.Bus.TheVariants.{Smbus}
use Rattle.mctp_net.specs.declared.fault.PacketFault.{PacketFault}
use Rattle.mctp_net.specs.declared.packet.Envelope.{Envelope}
use Rattle.mctp_net.specs.declared.packet.Packet.{Packet}
use Rattle.mctp_net.specs.declared.message.Message.{Message}
use Rattle.mctp_net.specs.declared.taken.DropCause.{DropCause}
use Rattle.mctp_net.specs.Assembly.{Assemblies, drop_cause, after as kept_after, message_of}
use Rattle.mctp_net.specs.Control.{Request as ControlRequest, request_of as control_request_of, reply_to as control_reply_to, eid_after}
use Rattle.mctp_net.specs.Grammar.{IsPacket, has_fault, faults}
use Rattle.pldm_base.specs.declared.fault.PldmFault.{PldmFault}
use Rattle.pldm_base.specs.declared.message.PldmRequest.{PldmRequest}
use Rattle.pldm_base.specs.Message.{request_in as pldm_request_in, has_fault as has_pldm_fault, faults as pldm_faults}
use Rattle.record_base.specs.declared.message.Answered.{Answered}
use Rattle.cfg_records.specs.declared.board_file.BoardFile.{BoardFile}
use Rattle.model_bus.specs.Carried.{Outcome, Repeats, IsBusy, IsNew}
use Rattle.model_bus.specs.Request.{Kept, Carried}
use Rattle.bmc_board.specs.State.{State}
use Rattle.bmc_board.specs.Answer.{answer_of}
use Rattle.bmc_core.specs.Bytes.{said}
use Rattle.bmc_core.specs.Values.{Value, Part}
use Rattle.bmc_core.specs.PortSteps.{PortState, StepResult, stays, left_by, turn, hears_control, hears_pldm, hears_typed, hears_message, hears_part, ends_message, hears}
use Rattle.bmc_core.specs.declared.out.Out.{Out}
use Rattle.bmc_core.specs.declared.out.Disposition.TheVariants as done
use Rattle.bmc_core.specs.declared.out.Reason.TheVariants as reason
use Rattle.bmc_core.specs.declared.smbus_port.SmbusPort.{SmbusPort}
use Rattle.bmc_core.specs.Outs.{sends, done_by, ReadBack}
use Rattle.bmc_core.specs.SmbusHeard.{InMessage, HeardMessage, Ignored, Waiting, Control, Asks, control_heard, pldm_heard, typed_heard, message_heard, part_heard, with_part, taken, heard_in, asking, asked_of, asks_of, found, asks, done_of, kept_with, asks_effect, effect}
use Rattle.bmc_core.specs.SmbusShown.{Represents, HearingOf, HasEffect, HasMessageEffect, IsStepResult, HearsBytes, parts_from, frames_from, HasHeard, IsSettled}
use Rattle.bmc_core.proofs.OwnBytes.{none_read}

-- ---- the bytes

pub hearing_fault : (port : PortState) (bytes : List ℕ) (fault : PacketFault) (Holds : PortState → HeardMessage → Type 0)
    → Some fault ≡ find (has_fault bytes) faults
    → ((q : Packet) → IsPacket q bytes → (let r : Result Packet PacketFault = Err fault in r) ≡ Ok q)
    → Holds port (Ignored (reason.Packet fault))
    → HearingOf port bytes Holds
hearing_fault port bytes fault Holds first whole heard = record {
  faulty = λ other is.
      let same : fault ≡ other = cc in
      subst (λ (f : PacketFault). Holds port (Ignored (reason.Packet f))) same heard;
  packet = λ q is. let e : (let r : Result Packet PacketFault = Err fault in r) ≡ Ok q = whole q is in cc;
}

pub hearing_packet : (port : PortState) (bytes : List ℕ) (p : Packet) (Holds : PortState → HeardMessage → Type 0)
    → (let n : Option PacketFault = None in n) ≡ find (has_fault bytes) faults
    → ((q : Packet) → IsPacket q bytes → (let r : Result Packet PacketFault = Ok p in r) ≡ Ok q)
    → Holds (taken port p) (heard_in port p)
    → HearingOf port bytes Holds
hearing_packet port bytes p Holds faultless whole heard = record {
  faulty = λ fault is. cc;
  packet = λ q is.
      let e : (let r : Result Packet PacketFault = Ok p in r) ≡ Ok q = whole q is in
      let same : p ≡ q = cc in
      subst (λ (r : Packet). Holds (taken port r) (heard_in port r)) same heard;
}

-- of what holds of each, what follows
pub hearing_map : (port : PortState) (bytes : List ℕ) (P Q : PortState → HeardMessage → Type 0) → ((now : PortState) (h : HeardMessage) → P now h → Q now h) → HearingOf port bytes P → HearingOf port bytes Q
hearing_map port bytes P Q follows is = record {
  faulty = λ fault first. follows port (Ignored (reason.Packet fault)) (is.faulty fault first);
  packet = λ p at. follows (taken port p) (heard_in port p) (is.packet p at);
}

-- ---- what is heard, and what comes of it

-- the port, once its endpoint has this identifier
abbrev pub with_eid : PortState → ℕ → PortState
with_eid port eid = record port { eid = eid }

-- of all but a request comes what is sent, whatever the board would answer
pub ended : (next : SmbusPort) (out : Out) (port : PortState) (h : HeardMessage) (eid : ℕ) → HasHeard port.wire port.eid h eid out None → Represents next (with_eid port eid)
    → (asks port h ≡ None) × ((a : Answered) → HasMessageEffect next out port h a)
ended next out port (Ignored why) eid is shows = (refl, λ a. record { shows = subst (λ (n : ℕ). Represents next (with_eid port n)) is.0 shows; sent = is.1; read = none_read Smbus })
ended next out port Waiting eid is shows = (refl, λ a. record { shows = subst (λ (n : ℕ). Represents next (with_eid port n)) is.0 shows; sent = is.1; read = none_read Smbus })
ended next out port (Control e r) eid is shows = (
  refl,
  λ a. record {
    shows = subst (λ (n : ℕ). Represents next (with_eid port n)) is.0 shows;
    sent = is.1 ∙ ap (λ (n : ℕ). sends (frames_from port.wire n e (control_reply_to port.eid r)) done.Control) is.0;
    read = subst (λ (n : ℕ). ReadBack Smbus (parts_from port.wire n e (control_reply_to port.eid r))) is.0 is.3;
  },
)
ended next out port (Asks m) eid is shows = let no : (let n : Option InMessage = None in n) ≡ Some m = is.1 in absurd cc

-- a reply of some bytes is sent in packets from this place, each read as itself
abbrev pub IsSent : (wire eid : ℕ) → Envelope → List ℕ → Out → Type 0
IsSent wire eid e reply out = 0 < length reply → (out ≡ sends (frames_from wire eid e reply) done.Control) × ReadBack Smbus (parts_from wire eid e reply)

-- a control message to which the endpoint replies
pub replied : (wire own : ℕ) (e : Envelope) (o : Option ControlRequest) (reply : List ℕ) (eid : ℕ) (out : Out) → Some reply ≡ option_map (control_reply_to own) o
    → eid ≡ option_map_or (λ r. eid_after own r.command r.content) o own → IsSent wire eid e reply out → HasHeard wire own (control_heard e o) eid out None
replied wire own e None reply eid out is after sent = absurd cc
replied wire own e (Some r) reply eid out is after sent =
    let same : reply ≡ control_reply_to own r = cc in
    let so = subst (λ (xs : List ℕ). IsSent wire eid e xs out) same sent (omega arith) in
    (after, so.0, refl, so.1)

-- a request is what was heard
pub given_is_heard : (wire own : ℕ) (h : HeardMessage) (eid : ℕ) (out : Out) (m : InMessage) → HasHeard wire own h eid out (Some m) → (eid ≡ own) × (h ≡ Asks m)
given_is_heard wire own (Ignored why) eid out m is = let no : Some m ≡ None = is.2 in absurd cc
given_is_heard wire own Waiting eid out m is = let no : Some m ≡ None = is.2 in absurd cc
given_is_heard wire own (Control e r) eid out m is = let no : Some m ≡ None = is.2 in absurd cc
given_is_heard wire own (Asks n) eid out m is = let yes : Some m ≡ Some n = is.1 in let same : n ≡ m = cc in (is.0, ap Asks same)

-- what is heard at the place that the port has
pub heard_at : (p : PortState) (h : HeardMessage) (wire own eid : ℕ) (out : Out) (given is : Option InMessage) → p.wire ≡ wire → p.eid ≡ own → given ≡ is
    → HasHeard wire own h eid out given → HasHeard p.wire p.eid h eid out is
heard_at p h wire own eid out given is at_wire at_eid so heard =
    subst (λ (n : ℕ). HasHeard n p.eid h eid out is) (sym at_wire)
    (subst (λ (n : ℕ). HasHeard wire n h eid out is) (sym at_eid) (subst (λ (o : Option InMessage). HasHeard wire own h eid out o) so heard))

-- the body of the message that a packet ends
pub message_is : (left : Assemblies) (q : Packet) (body : List ℕ) → body ≡ (message_of left q).body
    → message_heard (record { envelope = q.envelope; body = body }) ≡ message_heard (message_of left q)
message_is left q body is = λ i. message_heard (record { envelope = q.envelope; body = is i })

-- what was done with a request, from the place that the port has
pub settled_as : (p : PortState) (m : InMessage) (wire eid : ℕ) (before out : Out) (test is : Bool) → p.wire ≡ wire → p.eid ≡ eid → test ≡ is
    → IsSettled (found p m) (said Smbus (asking m) None) (parts_from wire eid m.envelope) before out test
    → IsSettled (found p m) (said Smbus (asking m) None) (parts_from p.wire p.eid m.envelope) before out is
settled_as p m wire eid before out test is at_wire at_eid so settles =
    subst (λ (n : ℕ). IsSettled (found p m) (said Smbus (asking m) None) (parts_from n p.eid m.envelope) before out is) (sym at_wire)
    (subst (λ (n : ℕ). IsSettled (found p m) (said Smbus (asking m) None) (parts_from wire n m.envelope) before out is) (sym at_eid)
    (subst (λ (t : Bool). IsSettled (found p m) (said Smbus (asking m) None) (parts_from wire eid m.envelope) before out t) so settles))

-- the packets of a reply, from the place that the port has
pub parts_at : (p : PortState) (e : Envelope) (body : List ℕ) (wire eid : ℕ) → p.wire ≡ wire → p.eid ≡ eid → ReadBack Smbus (parts_from wire eid e body) → ReadBack Smbus (parts_from p.wire p.eid e body)
parts_at p e body wire eid at_wire at_eid read =
    subst (λ (n : ℕ). ReadBack Smbus (parts_from n p.eid e body)) (sym at_wire) (subst (λ (n : ℕ). ReadBack Smbus (parts_from wire n e body)) (sym at_eid) read)

-- ---- a request that isn't new

settled_by : (next : SmbusPort) (out before : Out) (port : PortState) (m : InMessage) (o : Outcome) (k : Kept) → Represents next port
    → IsSettled o (said Smbus (asking m) None) (parts_from port.wire port.eid m.envelope) before out true
    → (asks_of m o ≡ None) × HasEffect next out (asks_effect port m o k) (done_by o)
settled_by next out before port m (Repeats reply) k shows is = (refl, record { shows = shows; sent = is.1; read = is.2 })
settled_by next out before port m IsBusy k shows is = (refl, record { shows = shows; sent = is.1; read = is.2 })
settled_by next out before port m IsNew k shows is = let no : true ≡ false = is.0 in absurd cc

pub settled : (next : SmbusPort) (out before : Out) (port : PortState) (m : InMessage) → Represents next port
    → IsSettled (found port m) (said Smbus (asking m) None) (parts_from port.wire port.eid m.envelope) before out true
    → (asks port (Asks m) ≡ None) × ((a : Answered) → HasMessageEffect next out port (Asks m) a)
settled next out before port m shows is =
    ((settled_by next out before port m (found port m) (kept_with m (record { code = 0; body = [] })) shows is).0, λ a. (settled_by next out before port m (found port m) (kept_with m a) shows is).1)

-- ---- a new request

pub new : (o : Outcome) (busy : List ℕ) (parts : List ℕ → List Value) (before out : Out) → IsSettled o busy parts before out false → o ≡ IsNew
new (Repeats reply) busy parts before out is = let no : false ≡ true = is.0 in absurd cc
new IsBusy busy parts before out is = let no : false ≡ true = is.0 in absurd cc
new IsNew busy parts before out is = refl

pub answered : (next : SmbusPort) (out : Out) (port : PortState) (m : InMessage) (a : Answered) → found port m ≡ IsNew
    → Represents next (record port { log = Carried (kept_with m a) ∷ port.log })
    → out ≡ sends (frames_from port.wire port.eid m.envelope (kept_with m a).reply) done.Answered
    → ReadBack Smbus (parts_from port.wire port.eid m.envelope (kept_with m a).reply)
    → HasMessageEffect next out port (Asks m) a
answered next out port m a is shows sent read =
    subst (λ (o : Outcome). HasEffect next out (asks_effect port m o (kept_with m a)) (done_by o)) (sym is) (record { shows = shows; sent = sent; read = read })

-- ---- with the board

module _ (setup : BoardFile) (before : State) where
  -- what the board would answer, if it's given_is_heard
  abbrev pub answer_for : HeardMessage → Answered
  answer_for (Asks m) = (answer_of setup before (asked_of m)).0
  answer_for _ = record { code = 0; body = [] }

  -- the board after it
  abbrev pub left_after : PortState → HeardMessage → State
  left_after port (Asks m) = left_by (found port m) (answer_of setup before (asked_of m)).1 before
  left_after port _ = before

  -- what the model port does
  abbrev pub deed_of : PortState → HeardMessage → StepResult
  deed_of port h = let e = effect port h (answer_for h) in record { port = e.port; board = left_after port h; sent = e.sent }

  by_test : (test : Bool) (port : PortState) (x y : StepResult) (h k : HeardMessage) → x ≡ deed_of port h → y ≡ deed_of port k → cond test x y ≡ deed_of port (cond test h k)
  by_test true port x y h k one other = one
  by_test false port x y h k one other = other

  control_deed : (port : PortState) (m : Message) (o : Option ControlRequest) → hears_control port before m o ≡ deed_of port (control_heard m.envelope o)
  control_deed port m None = refl
  control_deed port m (Some r) = refl

  pldm_deed : (port : PortState) (m : Message) (o : Option PldmRequest) (f : Option PldmFault) → hears_pldm setup port before m o ≡ deed_of port (pldm_heard m.envelope o f)
  unfolding turn
  pldm_deed port m None None = refl
  pldm_deed port m None (Some fault) = refl
  pldm_deed port m (Some r) f = refl

  typed_deed : (port : PortState) (m : Message) (body : List ℕ) → hears_typed setup port before m body ≡ deed_of port (typed_heard m body)
  typed_deed port m [] = refl
  typed_deed port m (kind ∷ rest) =
      by_test (kind == 0) port _ _ (control_heard m.envelope (control_request_of m.body))
      (cond (kind == 1) (pldm_heard m.envelope (pldm_request_in rest) (find (has_pldm_fault rest) pldm_faults)) (Ignored reason.MessageType))
      (control_deed port m (control_request_of m.body))
      (by_test (kind == 1) port _ _ (pldm_heard m.envelope (pldm_request_in rest) (find (has_pldm_fault rest) pldm_faults)) (Ignored reason.MessageType)
      (pldm_deed port m (pldm_request_in rest) (find (has_pldm_fault rest) pldm_faults)) refl)

  message_deed : (port : PortState) (m : Message) → hears_message setup port before m ≡ deed_of port (message_heard m)
  unfolding hears_message
  message_deed port m = by_test m.envelope.tag_owner port _ _ (typed_heard m m.body) (Ignored reason.NotRequest) (typed_deed port m m.body) refl

  part_deed : (port : PortState) (p : Packet) (o : Option DropCause) → ends_message setup port before p o ≡ deed_of port (part_heard port p o)
  part_deed port p (Some cause) = refl
  part_deed port p None = by_test p.end port _ _ (message_heard (message_of port.kept p)) Waiting (message_deed port (message_of port.kept p)) refl

  taken_deed : (port : PortState) (p : Packet) (ours : Bool)
      → cond ours (hears_part setup port before p) (stays port before)
      ≡ deed_of (record port { kept = cond ours (kept_after port.eid port.kept p) port.kept }) (cond ours (part_heard (with_part port p) p (drop_cause port.eid port.kept p)) (Ignored reason.NotOurs))
  unfolding hears_part
  taken_deed port p true = part_deed (with_part port p) p (drop_cause port.eid port.kept p)
  taken_deed port p false = refl

  -- a packet: what the model port does with it is what comes of what is heard
  pub packet_deed : (port : PortState) (p : Packet) → hears setup port before (Part p) ≡ deed_of (taken port p) (heard_in port p)
  packet_deed port p = taken_deed port p (p.envelope.destination == port.wire)

  pub hears_bytes : (port : PortState) (bytes : List ℕ) (next : SmbusPort) (out : Out) (after : State)
      → HearingOf port bytes (λ t h. IsStepResult next out after (deed_of t h) (done_of t h)) → HearsBytes setup port before bytes next out after
  hears_bytes port bytes next out after h = record {
    faulty = h.faulty;
    packet = λ p is. subst (λ (d : StepResult). IsStepResult next out after d (done_of (taken port p) (heard_in port p))) (sym (packet_deed port p)) (h.packet p is);
  }

  pub left_new : (port : PortState) (m : InMessage) → found port m ≡ IsNew → left_after port (Asks m) ≡ (answer_of setup before (asked_of m)).1
  left_new port m is = ap (λ (o : Outcome). left_by o (answer_of setup before (asked_of m)).1 before) is

  -- what comes of what was heard, with what it leaves of the board
  pub does : (next : SmbusPort) (out : Out) (after : State) (port : PortState) (h : HeardMessage) → HasMessageEffect next out port h (answer_for h) → left_after port h ≡ after
      → IsStepResult next out after (deed_of port h) (done_of port h)
  does next out after port h e left = record { shows = e.shows; sent = e.sent; read = e.read; left = sym left }
