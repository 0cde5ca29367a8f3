-- What a port does leaves how often windows were forgotten, and its address; and deeds come one after another.
use Rattle.std.proofs.Common.{◌≡◌, ℕ, Bool, true, false, cond, List, [], ◌∷◌, ◌++◌, map, Option, Some, None, Result, Ok, Err, refl, sym, ◌∙◌, ap}
use Rattle.std.specs.Prelude.{◌==◌}
use Rattle.std.proofs.lemmas.Bool.{true≢false, eqb-true, eq-eqb}
use Rattle.std.proofs.lemmas.List.{append-nil, append_assoc, map-append}
use Rattle.two_wire.specs.declared.Bus.TheVariants as bus
use Rattle.ipmb_frame.specs.declared.message.Request.{Request}
use Rattle.ipmb_frame.specs.declared.message.Response.{Response}
use Rattle.ipmb_frame.specs.declared.message.Msg.TheVariants as msg
use Rattle.ipmb_frame.specs.Grammar.{IsRequest, IsResponse}
use Rattle.mctp_net.specs.declared.packet.Packet.{Packet}
use Rattle.mctp_net.specs.declared.message.Message.{Message}
use Rattle.mctp_net.specs.declared.taken.DropCause.{DropCause}
use Rattle.mctp_net.specs.Assembly.{drop_cause, after as kept_after, message_of}
use Rattle.mctp_net.specs.Control.{Request as ControlRequest, request_of as control_request_of}
use Rattle.pldm_base.specs.declared.message.PldmRequest.{PldmRequest}
use Rattle.pldm_base.specs.Message.{request_in as pldm_request_in}
use Rattle.cfg_records.specs.declared.board_file.BoardFile.{BoardFile}
use Rattle.bmc_board.specs.State.{State}
use Rattle.bmc_board.specs.Answer.{answer_of}
use Rattle.model_bus.specs.Request.{Kept, Entry, idles_of}
use Rattle.model_bus.specs.Numbering.{is_above}
use Rattle.model_bus.specs.Carried.{Outcome, Repeats, IsBusy, IsNew, outcome, log_after}
use Rattle.model_bus.specs.Packet.{Packet as ModelPacket, packets_of}
use Rattle.bmc_core.specs.Bytes.{heard_in, pldm_heard_in}
use Rattle.bmc_core.specs.Values.{Value, Asks, Tells, Part, IsFrameOn, parts_of}
use Rattle.bmc_core.specs.PortSteps.{PortState, StepResult, stays, turn, spelled, asked_in, pldm_asked, hears_request, hears_control, hears_pldm, hears_typed, hears_message, ends_message, hears_part, hears_parts, hears_all, hears}
use Rattle.model_lab.specs.ManagerSteps.{own_on}
use Rattle.model_lab.specs.declared.way.Way.TheVariants.{ToOthers}
use Rattle.model_lab.specs.Lab.{LabFrame, Lab as LabModel, port_does}
use Rattle.bmc_core.specs.declared.out.Reason.{Reason}
use Rattle.bmc_core.specs.declared.out.Reason.TheVariants.{NotOurs, NotRequest}
use Rattle.bmc_core.specs.IpmbHeard.{IsHeard}
use Rattle.bmc_core.specs.IpmbShown.{step_result_of}
use Rattle.model_lab.specs.Played.{plans}
use Rattle.lab_run.specs.Hearing.{heard_at}

-- no window was forgotten, and the port is where it was
pub record Keeps (port : PortState) (d : StepResult) : Type 0 where
  pub idles : (q : ℕ) → idles_of q d.port.log ≡ idles_of q port.log
  pub wire : d.port.wire ≡ port.wire

log_keeps : (o : Outcome) (k : Kept) (log : List Entry) (q : ℕ) → idles_of q (log_after o k log) ≡ idles_of q log
log_keeps (Repeats reply) k log q = refl
log_keeps IsBusy k log q = refl
log_keeps IsNew k log q = refl

module _ (setup : BoardFile) (before : State) where
  stays_keeps : (port : PortState) → Keeps port (stays port before)
  stays_keeps port = record { idles = λ q. refl; wire = refl }

  request_keeps : (port : PortState) (r : Request) → Keeps port (hears_request setup port before r)
  unfolding turn hears_request
  request_keeps port r =
      let k : Kept = record { request = heard_in r; reply = spelled bus.Ipmb (heard_in r) (answer_of setup before (asked_in r)).0 } in
      record { idles = log_keeps (outcome (is_above 64) (heard_in r) port.log) k port.log; wire = refl }

  control_keeps : (port : PortState) (m : Message) (o : Option ControlRequest) → Keeps port (hears_control port before m o)
  control_keeps port m None = stays_keeps port
  control_keeps port m (Some r) = record { idles = λ q. refl; wire = refl }

  pldm_keeps : (port : PortState) (m : Message) (o : Option PldmRequest) → Keeps port (hears_pldm setup port before m o)
  unfolding turn
  pldm_keeps port m None = record { idles = λ q. refl; wire = refl }
  pldm_keeps port m (Some r) =
      let s = pldm_heard_in m.envelope.source_eid r in
      let k : Kept = record { request = s; reply = spelled bus.Smbus s (answer_of setup before (pldm_asked m.envelope.source_eid r)).0 } in
      record { idles = log_keeps (outcome (is_above 32) s port.log) k port.log; wire = refl }

  typed_keeps : (port : PortState) (m : Message) (body : List ℕ) → Keeps port (hears_typed setup port before m body)
  typed_keeps port m [] = stays_keeps port
  typed_keeps port m (kind ∷ rest) = by (kind == 0) (kind == 1)
    where
      by : (zero one : Bool) → Keeps port (cond zero (hears_control port before m (control_request_of m.body)) (cond one (hears_pldm setup port before m (pldm_request_in rest)) (stays port before)))
      by true one = control_keeps port m (control_request_of m.body)
      by false true = pldm_keeps port m (pldm_request_in rest)
      by false false = stays_keeps port

  message_keeps : (port : PortState) (m : Message) → Keeps port (hears_message setup port before m)
  unfolding hears_message
  message_keeps port m = by m.envelope.tag_owner
    where
      by : (t : Bool) → Keeps port (cond t (hears_typed setup port before m m.body) (stays port before))
      by true = typed_keeps port m m.body
      by false = stays_keeps port

  ends_keeps : (port : PortState) (p : Packet) (c : Option DropCause) → Keeps port (ends_message setup port before p c)
  ends_keeps port p (Some cause) = stays_keeps port
  ends_keeps port p None = by p.end
    where
      by : (t : Bool) → Keeps port (cond t (hears_message setup port before (message_of port.kept p)) (stays port before))
      by true = message_keeps port (message_of port.kept p)
      by false = stays_keeps port

  part_keeps : (port : PortState) (p : Packet) → Keeps port (hears_part setup port before p)
  unfolding hears_part
  part_keeps port p =
      let keeps = ends_keeps (record port { kept = kept_after port.eid port.kept p }) p (drop_cause port.eid port.kept p) in
      record { idles = keeps.idles; wire = keeps.wire }

  -- whatever comes
  pub hears_keeps : (port : PortState) (v : Value) → Keeps port (hears setup port before v)
  hears_keeps port (Asks r) = by (r.header.responder.address == port.wire)
    where
      by : (t : Bool) → Keeps port (cond t (hears_request setup port before r) (stays port before))
      by true = request_keeps port r
      by false = stays_keeps port
  hears_keeps port (Tells r) = stays_keeps port
  hears_keeps port (Part p) = by (p.envelope.destination == port.wire)
    where
      by : (t : Bool) → Keeps port (cond t (hears_part setup port before p) (stays port before))
      by true = part_keeps port p
      by false = stays_keeps port

-- ---- what a port on IPMB hears in a frame

module _ (setup : BoardFile) (p : PortState) (before : State) (bytes : List ℕ) where
  -- what it hears, and that the deed is that of the value
  pub record HeardAs (v : Value) : Type 0 where
    pub heard : Result Request Reason
    pub is : IsHeard p.wire bytes heard
    pub same : step_result_of setup p before heard ≡ hears setup p before v
    pub says : heard ≡ heard_at p.wire v

  asks_as : (r : Request) (b : Bool) → (r.header.responder.address == p.wire) ≡ b → IsRequest r bytes → HeardAs (Asks r)
  asks_as r true e is = record {
    heard = Ok r;
    is = (is, eqb-true _ _ e);
    says = sym (ap (λ (b : Bool). cond b (Ok r) (Err NotOurs)) e);
    same = sym (ap (λ (b : Bool). cond b (hears_request setup p before r) (stays p before)) e);
  }
  asks_as r false e is = record {
    heard = Err NotOurs;
    is = (msg.Request r, is, λ there. true≢false (sym (eq-eqb _ _ there) ∙ e));
    says = sym (ap (λ (b : Bool). cond b (Ok r) (Err NotOurs)) e);
    same = sym (ap (λ (b : Bool). cond b (hears_request setup p before r) (stays p before)) e);
  }

  tells_as : (r : Response) (b : Bool) → (r.header.requester.address == p.wire) ≡ b → IsResponse r bytes → HeardAs (Tells r)
  tells_as r true e is = record { heard = Err NotRequest; is = (r, is, eqb-true _ _ e); same = refl; says = sym (ap (λ (b : Bool). cond b (Err NotRequest) (Err NotOurs)) e) }
  tells_as r false e is = record { heard = Err NotOurs; is = (msg.Response r, is, λ there. true≢false (sym (eq-eqb _ _ there) ∙ e)); same = refl; says = sym (ap (λ (b : Bool). cond b (Err NotRequest) (Err NotOurs)) e) }

  pub heard_as : (v : Value) → IsFrameOn bus.Ipmb v bytes → HeardAs v
  heard_as (Asks r) is = asks_as r (r.header.responder.address == p.wire) refl is
  heard_as (Tells r) is = tells_as r (r.header.requester.address == p.wire) refl is
  heard_as (Part q) is = absurd is

-- ---- deeds one after another

abbrev pub then_deed : StepResult → StepResult → StepResult
then_deed d e = record { port = e.port; board = e.board; sent = d.sent ++ e.sent }

-- a port of the lab does both, or one after the other
pub two_deeds : (x : LabModel plans) (d e : StepResult) → ((q : ℕ) → idles_of q e.port.log ≡ idles_of q d.port.log)
    → port_does plans bus.Smbus ToOthers 0 (then_deed d e) x ≡ port_does plans bus.Smbus ToOthers 0 e (port_does plans bus.Smbus ToOthers 0 d x)
two_deeds x d e same =
    let q = own_on bus.Smbus x.manager.names in
    let now : ℕ → Value → LabFrame = λ n v. record { on = bus.Smbus; way = ToOthers; request = 0; idles = n; value = v } in
    let first = map (now (idles_of q d.port.log)) d.sent in
    let last = map (now (idles_of q e.port.log)) e.sent in
    let frames : x.frames ++ map (now (idles_of q e.port.log)) (d.sent ++ e.sent) ≡ (x.frames ++ first) ++ last =
    ap (λ (fs : List LabFrame). x.frames ++ fs) (map-append (now (idles_of q e.port.log)) d.sent e.sent)
    ∙ sym (append_assoc x.frames (map (now (idles_of q e.port.log)) d.sent) last)
    ∙ ap (λ (n : ℕ). (x.frames ++ map (now n) d.sent) ++ last) (same q) in
    ap (λ (fs : List LabFrame). let y : LabModel plans = record { board = e.board; ipmb = x.ipmb; smbus = e.port; manager = x.manager; frames = fs; opened = x.opened } in y) frames

pub no_deed : (x : LabModel plans) → port_does plans bus.Smbus ToOthers 0 (stays x.smbus x.board) x ≡ x
no_deed x = ap (λ (fs : List LabFrame). let y : LabModel plans = record { board = x.board; ipmb = x.ipmb; smbus = x.smbus; manager = x.manager; frames = fs; opened = x.opened } in y) (append-nil x.frames)

module _ (setup : BoardFile) where
  -- what comes, one after another
  abbrev pub hears_each : PortState → State → List Value → StepResult
  hears_each port before [] = stays port before
  hears_each port before (v ∷ vs) =
      let first = hears setup port before v in
      then_deed first (hears_each first.port first.board vs)

  pub one_more_heard : (port : PortState) (before : State) (vs : List Value) (v : Value)
      → hears_each port before (vs ++ v ∷ []) ≡ (let d = hears_each port before vs in then_deed d (hears setup d.port d.board v))
  one_more_heard port before [] v =
      let e = hears setup port before v in
      ap (λ (values : List Value). let d : StepResult = record { port = e.port; board = e.board; sent = values } in d) (append-nil e.sent)
  one_more_heard port before (u ∷ vs) v =
      let first = hears setup port before u in
      let d = hears_each first.port first.board vs in
      let e = hears setup d.port d.board v in
      ap (λ (r : StepResult). then_deed first r) (one_more_heard first.port first.board vs v)
      ∙ ap (λ (values : List Value). let d : StepResult = record { port = e.port; board = e.board; sent = values } in d) (sym (append_assoc first.sent d.sent e.sent))

  -- of the packets of a message
  module _ (m : Message) where
    abbrev in_envelope : ModelPacket → Packet
    in_envelope q = record { envelope = m.envelope; start = q.first; end = q.last; sequence = q.sequence; payload = q.payload }

    abbrev parts : List ModelPacket → List Value
    parts qs = map (λ p. Part p) (map in_envelope qs)

    each_ours : (qs : List ModelPacket) (port : PortState) (before : State) → (m.envelope.destination == port.wire) ≡ true
        → hears_each port before (parts qs) ≡ hears_parts setup port before (map in_envelope qs)
    unfolding hears_parts
    each_ours [] port before ours = refl
    each_ours (q ∷ qs) port before ours =
        let p = in_envelope q in
        let next = hears_part setup port before p in
        let first : hears setup port before (Part p) ≡ next = ap (λ (b : Bool). cond b (hears_part setup port before p) (stays port before)) ours in
        let there : (m.envelope.destination == next.port.wire) ≡ true = ap (λ (w : ℕ). m.envelope.destination == w) (part_keeps setup before port p).wire ∙ ours in
        ap (λ (d : StepResult). then_deed d (hears_each d.port d.board (parts qs))) first
        ∙ ap (λ (r : StepResult). then_deed next r) (each_ours qs next.port next.board there)

    each_others : (qs : List ModelPacket) (port : PortState) (before : State) → (m.envelope.destination == port.wire) ≡ false
        → hears_each port before (parts qs) ≡ stays port before
    each_others [] port before away = refl
    each_others (q ∷ qs) port before away =
        let p = in_envelope q in
        let first : hears setup port before (Part p) ≡ stays port before = ap (λ (b : Bool). cond b (hears_part setup port before p) (stays port before)) away in
        ap (λ (d : StepResult). then_deed d (hears_each d.port d.board (parts qs))) first
        ∙ ap (λ (r : StepResult). then_deed (stays port before) r) (each_others qs port before away)

    by_wire : (port : PortState) (before : State) (b : Bool) → (m.envelope.destination == port.wire) ≡ b
        → hears_each port before (parts (packets_of m.body)) ≡ cond b (hears_parts setup port before (parts_of m)) (stays port before)
    by_wire port before true e = each_ours (packets_of m.body) port before e
    by_wire port before false e = each_others (packets_of m.body) port before e

    pub all_heard : (port : PortState) (before : State) → hears_each port before (map (λ p. Part p) (parts_of m)) ≡ hears_all setup port before m
    all_heard port before = by_wire port before (m.envelope.destination == port.wire) refl
