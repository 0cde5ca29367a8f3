-- What a port did is never forgotten.
use Rattle.std.proofs.Common.{◌≡◌, ℕ, Bool, true, false, ◌&&◌, cond, List, [], ◌∷◌, ◌++◌, Option, Some, None, refl, sym, ◌∙◌, ap}
use Rattle.std.specs.Prelude.{◌==◌, slice_get}
use Rattle.std.proofs.lemmas.List.{append_assoc}
use Rattle.two_wire.specs.declared.Bus.{Bus}
use Rattle.two_wire.specs.declared.Bus.TheVariants.{Ipmb, Smbus}
use Rattle.ipmb_frame.specs.declared.message.Request.{Request}
use Rattle.mctp_net.specs.declared.message.Message.{Message}
use Rattle.mctp_net.specs.declared.packet.Envelope.{Envelope}
use Rattle.mctp_net.specs.declared.packet.Packet.{Packet}
use Rattle.pldm_base.specs.declared.message.PldmRequest.{PldmRequest}
use Rattle.pldm_base.specs.Message.{request_in as pldm_in}
use Rattle.record_base.specs.declared.message.Answered.{Answered}
use Rattle.bmc_board.specs.State.{State}
use Rattle.undo_plans.specs.declared.names.Names.{Names}
use Rattle.model_headline.specs.Frames.{Value, Asks, Tells, Part, packets_of, is_meant, is_taken, waits_after, whole}
use Rattle.model_headline.specs.Manager.{Phase, Fresh, Open, Done, Halted, Undone, UndoRefused, Turn, called, hears as manager_hears, open_in}
use Rattle.model_headline.specs.Lab.{Controller, Heard, Entry, Carried, Idled, Port, repeated, requesters, is_ninth, turn_where, turn, stays, heard_in, hears_request, pldm_heard, hears_control, hears_pldm, hears_typed, hears_packet, hears_packets, hears, Way, ToManager, ToOthers, Frame, Event, Calls, ToBmc, ToMgr, OtherIpmb, OtherSmbus, Noise, Idles, OnBench, Lab, port_on, sends, goes_on, port_does, opens, delivered, returned, hears_all, step}

-- a log is another with newer entries
pub record Grows (newer log : List Entry) : Type 0 where
  pub more : List Entry
  pub is : newer ≡ more ++ log

same_log : (log : List Entry) → Grows log log
same_log log = record { more = []; is = refl }

turn_grows : (on : Bus) (r : Heard) (c : Controller) (log : List Entry) (before : State) → Grows (turn on r c log before).log log
unfolding turn
turn_grows on r c log before = at (repeated on r [] log) (is_ninth r.requester (requesters log))
  where
    at : (o : Option Answered) (ninth : Bool) → Grows (turn_where o ninth on r c log before).log log
    at (Some a) ninth = same_log log
    at None true = same_log log
    at None false = record { more = Carried r (c.answer before r.asked).0 ∷ []; is = refl }

module _ (c : Controller) where
  typed_grows : (p : Port) (before : State) (e : Envelope) (body : List ℕ) → Grows (hears_typed c p before e body).port.log p.log
  typed_grows p before e [] = same_log p.log
  typed_grows p before e (kind ∷ rest) = at (kind == 0) (kind == 1) (c.control p.eid (kind ∷ rest)) (pldm_in rest)
    where
      at : (zero one : Bool) (told : Option (ℕ × List ℕ)) (o : Option PldmRequest) → Grows (cond zero (hears_control p before e told) (cond one (hears_pldm c p before e o) (stays p before))).port.log p.log
      at true one None o = same_log p.log
      at true one (Some r) o = same_log p.log
      at false true told None = same_log p.log
      at false true told (Some r) = turn_grows Smbus (pldm_heard e.source_eid r) c p.log before
      at false false told o = same_log p.log

  packet_grows : (p : Port) (before : State) (q : Packet) → Grows (hears_packet c p before q).port.log p.log
  unfolding hears_packet
  packet_grows p before q = at (is_taken p.eid q p.waits && (q.end && q.envelope.tag_owner))
    where
      at : (b : Bool) → Grows (cond b (hears_typed c (record p { waits = waits_after p.eid q p.waits }) before q.envelope (whole q p.waits)) (stays (record p { waits = waits_after p.eid q p.waits }) before)).port.log p.log
      at true = typed_grows (record p { waits = waits_after p.eid q p.waits }) before q.envelope (whole q p.waits)
      at false = same_log p.log

  packets_grow : (p : Port) (before : State) (qs : List Packet) → Grows (hears_packets c p before qs).port.log p.log
  packets_grow p before [] = same_log p.log
  packets_grow p before (q ∷ qs) =
      let first = hears_packet c p before q in
      let one = packet_grows p before q in
      let rest = packets_grow first.port first.board qs in
      record { more = rest.more ++ one.more; is = rest.is ∙ ap (λ (log : List Entry). rest.more ++ log) one.is ∙ sym (append_assoc rest.more one.more p.log) }

  hears_grows : (p : Port) (before : State) (v : Value) → Grows (hears c p before v).port.log p.log
  hears_grows p before (Asks r) = at (r.header.responder.address == p.wire)
    where
      at : (b : Bool) → Grows (cond b (hears_request c p before r) (stays p before)).port.log p.log
      at true = turn_grows Ipmb (heard_in r) c p.log before
      at false = same_log p.log
  hears_grows p before (Tells r) = same_log p.log
  hears_grows p before (Part q) = at (q.envelope.destination == p.wire)
    where
      at : (b : Bool) → Grows (cond b (hears_packet c p before q) (stays p before)).port.log p.log
      at true = packet_grows p before q
      at false = same_log p.log

  module _ (names : Names) where
    goes_on_grows : (bus : Bus) (t : Turn) (x : Lab) → Grows (port_on bus (goes_on names t x)).log (port_on bus x).log
    goes_on_grows bus t x = at bus t.sends t.manager.phase
      where
        at : (bus : Bus) (b : Bool) (phase : Phase) → Grows (port_on bus (cond b (sends names (open_in names phase) (record x { manager = t.manager })) (record x { manager = t.manager }))).log (port_on bus x).log
        at Ipmb false phase = same_log x.ipmb.log
        at Smbus false phase = same_log x.smbus.log
        at Ipmb true Fresh = same_log x.ipmb.log
        at Ipmb true (Open heeded task bodies) = same_log x.ipmb.log
        at Ipmb true Done = same_log x.ipmb.log
        at Ipmb true (Halted k why) = same_log x.ipmb.log
        at Ipmb true Undone = same_log x.ipmb.log
        at Ipmb true (UndoRefused k code) = same_log x.ipmb.log
        at Smbus true Fresh = same_log x.smbus.log
        at Smbus true (Open heeded task bodies) = same_log x.smbus.log
        at Smbus true Done = same_log x.smbus.log
        at Smbus true (Halted k why) = same_log x.smbus.log
        at Smbus true Undone = same_log x.smbus.log
        at Smbus true (UndoRefused k code) = same_log x.smbus.log

    opens_same : (bus : Bus) (v : Value) (request : ℕ) (x : Lab) → port_on bus (opens v request x) ≡ port_on bus x
    opens_same bus (Asks r) request x = refl
    opens_same bus (Tells r) request x = refl
    opens_same bus (Part p) request x = at bus (p.start && is_meant x.smbus.eid p)
      where
        at : (bus : Bus) (b : Bool) → port_on bus (cond b (record x { opened = λ tag. cond (tag == p.envelope.tag) request (x.opened tag) }) x) ≡ port_on bus x
        at Ipmb true = refl
        at Ipmb false = refl
        at Smbus true = refl
        at Smbus false = refl

    delivered_grows : (bus on : Bus) (v : Value) (way : Way) (request : ℕ) (x : Lab) → Grows (port_on bus (port_does names on way request (hears c (port_on on x) x.board v) (opens v request x))).log (port_on bus x).log
    delivered_grows Ipmb Ipmb v way request x = hears_grows x.ipmb x.board v
    delivered_grows Smbus Smbus v way request x = hears_grows x.smbus x.board v
    delivered_grows Ipmb Smbus v way request x = record { more = []; is = ap (λ (p : Port). p.log) (opens_same Ipmb v request x) }
    delivered_grows Smbus Ipmb v way request x = record { more = []; is = ap (λ (p : Port). p.log) (opens_same Smbus v request x) }

    all_grows : (bus : Bus) (m : Message) (x : Lab) → Grows (port_on bus (port_does names Smbus ToOthers 0 (hears_all c names m x.smbus x.board) x)).log (port_on bus x).log
    all_grows Ipmb m x = same_log x.ipmb.log
    all_grows Smbus m x = at (m.envelope.destination == x.smbus.wire)
      where
        at : (b : Bool) → Grows (cond b (hears_packets c x.smbus x.board (packets_of m.envelope m.body)) (stays x.smbus x.board)).port.log x.smbus.log
        at true = packets_grow x.smbus x.board (packets_of m.envelope m.body)
        at false = same_log x.smbus.log

    request_grows : (bus : Bus) (r : Request) (x : Lab) → Grows (port_on bus (port_does names Ipmb ToOthers 0 (hears c x.ipmb x.board (Asks r)) x)).log (port_on bus x).log
    request_grows Ipmb r x = hears_grows x.ipmb x.board (Asks r)
    request_grows Smbus r x = same_log x.smbus.log

    to_port : (bus : Bus) (x : Lab) (o : Option Frame) → Grows (port_on bus (delivered c names o x)).log (port_on bus x).log
    to_port bus x None = same_log (port_on bus x).log
    to_port bus x (Some f) = delivered_grows bus f.on f.value ToManager f.request x

    to_manager : (bus : Bus) (x : Lab) (o : Option Frame) → Grows (port_on bus (returned c names o x)).log (port_on bus x).log
    to_manager bus x None = same_log (port_on bus x).log
    to_manager bus x (Some f) = goes_on_grows bus (manager_hears names f.value x.manager.phase x.manager) x

    pub step_grows : (bus : Bus) (x : Lab) (e : Event) → Grows (port_on bus (step c names x e)).log (port_on bus x).log
    unfolding step
    step_grows bus x (Calls call) = goes_on_grows bus (called call x.manager.phase x.manager) x
    step_grows bus x (ToBmc place) = to_port bus x (slice_get x.frames place)
    step_grows bus x (ToMgr place) = to_manager bus x (slice_get x.frames place)
    step_grows bus x (OtherIpmb r) = request_grows bus r x
    step_grows bus x (OtherSmbus m) = all_grows bus m x
    step_grows bus x (Noise on bytes) = same_log (port_on bus x).log
    step_grows Ipmb x (Idles Ipmb requester) = record { more = Idled requester ∷ []; is = refl }
    step_grows Smbus x (Idles Ipmb requester) = same_log x.smbus.log
    step_grows Ipmb x (Idles Smbus requester) = same_log x.ipmb.log
    step_grows Smbus x (Idles Smbus requester) = record { more = Idled requester ∷ []; is = refl }
    step_grows Ipmb x (OnBench activity) = same_log x.ipmb.log
    step_grows Smbus x (OnBench activity) = same_log x.smbus.log
