-- What a port did with each frame that came to it.
use Rattle.std.proofs.Common.{◌≡◌, ℕ, ◌+◌, ◌*◌, ◌==◌, cond, List, [], ◌∷◌, Option, Some, None, refl, ap, arith}
use Rattle.two_wire.specs.declared.Bus.TheVariants.{Ipmb, Smbus}
use Rattle.ipmb_frame.specs.declared.message.Request.{Request}
use Rattle.mctp_net.specs.declared.packet.Packet.{Packet}
use Rattle.mctp_net.specs.declared.message.Message.{Message}
use Rattle.mctp_net.specs.declared.taken.DropCause.{DropCause}
use Rattle.mctp_net.specs.Assembly.{drop_cause, after as kept_after, message_of}
use Rattle.mctp_net.specs.Control.{Request as ControlRequest, request_of as control_request_of}
use Rattle.pldm_base.specs.declared.message.PldmRequest.{PldmRequest}
use Rattle.pldm_base.specs.Message.{request_in as pldm_request_in}
use Rattle.record_base.specs.declared.message.Answered.{Answered}
use Rattle.cfg_records.specs.declared.board_file.BoardFile.{BoardFile}
use Rattle.bmc_board.specs.State.{State}
use Rattle.model_bus.specs.Numbering.{is_above}
use Rattle.model_bus.specs.Request.{Kept}
use Rattle.bmc_core.specs.Bytes.{heard_in, pldm_heard_in}
use Rattle.bmc_core.specs.Values.{Value, Asks, Tells, Part, parts_of}
use Rattle.bmc_core.specs.PortSteps.{PortState, spelled, asked_in, pldm_asked, stays, hears, hears_all, hears_request, hears_control, hears_pldm, hears_typed, hears_message, ends_message, hears_part, hears_parts}
use Rattle.model_headline.specs.Histories.{IsExchange}
use Rattle.model_headline.proofs.Carrying.{DidAt, did_nothing, did_both, did_if, did_turn}

exchanged : (r : Request) (a : Answered) → (let k : Kept = record { request = heard_in r; reply = spelled Ipmb (heard_in r) a } in IsExchange k (asked_in r) a)
exchanged r a = record { from = refl; request = (r.header.requester.lun, refl); reply = refl }

begun : (n : ℕ) → 128 * 1 + 32 * 0 + n ≡ 128 + n
begun n = omega arith

pldm_exchanged : (from : ℕ) (r : PldmRequest) (a : Answered) → (let k : Kept = record { request = pldm_heard_in from r; reply = spelled Smbus (pldm_heard_in from r) a } in IsExchange k (pldm_asked from r) a)
pldm_exchanged from r a = record {
  from = refl;
  request = ap (λ (b : ℕ). 1 ∷ b ∷ r.header.pldm_type ∷ r.header.command ∷ r.body) (begun r.header.instance);
  reply = refl;
}

module _ (setup : BoardFile) where
  did_request : (port : PortState) (before : State) (r : Request) → DidAt setup port before (hears_request setup port before r)
  unfolding hears_request
  did_request port before r = did_turn setup (is_above 64) (heard_in r) (spelled Ipmb (heard_in r)) (asked_in r) (exchanged r) port.log before

  did_control : (port : PortState) (before : State) (m : Message) (o : Option ControlRequest) → DidAt setup port before (hears_control port before m o)
  did_control port before m None = did_nothing setup port.log before
  did_control port before m (Some r) = did_nothing setup port.log before

  did_pldm : (port : PortState) (before : State) (m : Message) (o : Option PldmRequest) → DidAt setup port before (hears_pldm setup port before m o)
  did_pldm port before m None = did_nothing setup port.log before
  did_pldm port before m (Some r) =
      let from = m.envelope.source_eid in
      did_turn setup (is_above 32) (pldm_heard_in from r) (spelled Smbus (pldm_heard_in from r)) (pldm_asked from r) (pldm_exchanged from r) port.log before

  did_typed : (port : PortState) (before : State) (m : Message) (body : List ℕ) → DidAt setup port before (hears_typed setup port before m body)
  did_typed port before m [] = did_nothing setup port.log before
  did_typed port before m (kind ∷ rest) =
      let control = control_request_of m.body in
      let pldm = pldm_request_in rest in
      did_if setup (kind == 0) port before (hears_control port before m control) (cond (kind == 1) (hears_pldm setup port before m pldm) (stays port before))
      (did_control port before m control)
      (did_if setup (kind == 1) port before (hears_pldm setup port before m pldm) (stays port before) (did_pldm port before m pldm) (did_nothing setup port.log before))

  did_message : (port : PortState) (before : State) (m : Message) → DidAt setup port before (hears_message setup port before m)
  unfolding hears_message
  did_message port before m =
      did_if setup m.envelope.tag_owner port before (hears_typed setup port before m m.body) (stays port before) (did_typed port before m m.body) (did_nothing setup port.log before)

  did_end : (port : PortState) (before : State) (p : Packet) (o : Option DropCause) → DidAt setup port before (ends_message setup port before p o)
  did_end port before p (Some cause) = did_nothing setup port.log before
  did_end port before p None =
      did_if setup p.end port before (hears_message setup port before (message_of port.kept p)) (stays port before) (did_message port before (message_of port.kept p)) (did_nothing setup port.log before)

  did_part : (port : PortState) (before : State) (p : Packet) → DidAt setup port before (hears_part setup port before p)
  unfolding hears_part
  did_part port before p = did_end (record port { kept = kept_after port.eid port.kept p }) before p (drop_cause port.eid port.kept p)

  did_parts : (port : PortState) (before : State) (ps : List Packet) → DidAt setup port before (hears_parts setup port before ps)
  unfolding hears_parts
  did_parts port before [] = did_nothing setup port.log before
  did_parts port before (p ∷ ps) =
      let first = hears_part setup port before p in
      let rest = hears_parts setup first.port first.board ps in
      did_both setup port.log first.port.log rest.port.log before first.board rest.board (did_part port before p) (did_parts first.port first.board ps)

  pub did_all : (port : PortState) (before : State) (m : Message) → DidAt setup port before (hears_all setup port before m)
  did_all port before m =
      did_if setup (m.envelope.destination == port.wire) port before (hears_parts setup port before (parts_of m)) (stays port before) (did_parts port before (parts_of m)) (did_nothing setup port.log before)

  pub did_hear : (port : PortState) (before : State) (v : Value) → DidAt setup port before (hears setup port before v)
  did_hear port before (Asks r) =
      did_if setup (r.header.responder.address == port.wire) port before (hears_request setup port before r) (stays port before) (did_request port before r) (did_nothing setup port.log before)
  did_hear port before (Tells r) = did_nothing setup port.log before
  did_hear port before (Part p) =
      did_if setup (p.envelope.destination == port.wire) port before (hears_part setup port before p) (stays port before) (did_part port before p) (did_nothing setup port.log before)
