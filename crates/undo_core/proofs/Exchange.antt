-- The frames of a request are heard as it, and those of the reply are taken.
use Rattle.std.proofs.Common.{◌≡◌, ℕ, ◌+◌, ◌/◌, ◌%◌, ◌<◌, ◌≤◌, ◌==◌, ◌&&◌, ◌||◌, not, Bool, true, false, cond, if◌then◌else◌, List, [], ◌∷◌, ◌++◌, length, map, Option, Some, None, refl, sym, ◌∙◌, ap, subst, lit<, lit≤, arith}
use Rattle.std.specs.List.{All, AllZip}
use Rattle.std.specs.Prelude.{nat_le, nat_lt}
use Rattle.std.proofs.lemmas.Bool.{eq-eqb, lt-ltb}
use Rattle.std.proofs.lemmas.Bool.Decides.{nat_tests}
use Rattle.std.proofs.lemmas.List.{length-map}
use Rattle.std.proofs.lemmas.List.Elements.{All-nil, All-cons, All-head, All-tail}
use Rattle.two_wire.specs.declared.Bus.{Bus}
use Rattle.two_wire.specs.declared.Bus.TheVariants.{Ipmb, Smbus}
use Rattle.ipmb_frame.specs.declared.message.Request.{Request}
use Rattle.ipmb_frame.specs.declared.message.Msg.{Msg}
use Rattle.ipmb_frame.specs.declared.message.Msg.TheVariants as msg
use Rattle.ipmb_frame.proofs.Uniqueness.{message-one}
use Rattle.mctp_net.specs.declared.packet.Envelope.{Envelope}
use Rattle.mctp_net.specs.declared.packet.Packet.{Packet}
use Rattle.mctp_net.specs.declared.message.Message.{Message}
use Rattle.mctp_net.specs.declared.taken.DropCause.{DropCause}
use Rattle.mctp_net.specs.Grammar.{IsEnvelope}
use Rattle.mctp_net.specs.Cut.{piece, IsPiece, EachFrom}
use Rattle.mctp_net.specs.Control.{Request as ControlRequest, request_of as control_request_of}
use Rattle.mctp_net.specs.Assembly.{Assemblies, name_of, is_ours, open_beside, drop_cause, after as kept_after, after_where, ended, kept_with, message_of, ComesBack, MakesWhole, IsPieceTaken}
use Rattle.mctp_net.proofs.PacketLaws.{packet-one}
use Rattle.mctp_net.proofs.ComingBack.{cut-comes_back}
use Rattle.mctp_net.proofs.Wholes.{whole-passes, whole-fits, whole-one}
use Rattle.pldm_base.specs.declared.message.PldmRequest.{PldmRequest}
use Rattle.pldm_base.specs.Message.{request_in as pldm_request_in}
use Rattle.record_base.specs.declared.message.Asked.{Asked}
use Rattle.record_base.specs.declared.message.Asked.TheVariants.{Ipmi, Pldm}
use Rattle.cfg_records.specs.declared.board_file.BoardFile.{BoardFile}
use Rattle.bmc_board.specs.State.{State}
use Rattle.undo_plans.specs.declared.names.Names.{Names}
use Rattle.model_bus.specs.Bytes.{answers, is_busy_code}
use Rattle.model_bus.specs.Answered.{Answered}
use Rattle.model_undo.specs.Machine as machine
use Rattle.model_undo.specs.Wires.{number_of}
use Rattle.bmc_core.specs.Wires.{bus_of, bytes_of, reply_to, answered_from}
use Rattle.bmc_core.specs.Bytes.{response_bytes, response_to}
use Rattle.bmc_core.specs.Values.{Value, Asks, Tells, Part, written, parts_of, IsFrameOn}
use Rattle.bmc_core.specs.Cuts.{kept_after_parts, kept_with_parts, has_slot}
use Rattle.bmc_core.specs.PortSteps.{PortState, StepResult, stays, hears_request, hears_control, hears_pldm, hears_typed, hears_message, hears_part, hears_parts, ends_message}
use Rattle.model_lab.specs.ManagerSteps.{board_plans, ManagerState, ManagerStepResult, heeded_on, open_count, open_bytes, is_part, rests, taken_or, tested, hears_reply, hears_response, joins_for, joins, ends_reply, hears_packet}
use Rattle.bmc_core.proofs.Parts.{parts_are_cuts, parts_are_heard}
use Rattle.undo_core.specs.Shown.{words_of}
use Rattle.undo_core.specs.Exchange.{AreReadAs, AreNames, CanBeAsked, CanBeTold, IsControllers, hears_each, reply_message, values_told, ManagerDeeds, sent_list, deeds_of, manager_hears_each, IsAwaiting, IsHeardAsAsked, RequestsAreHeard, IsTakenAsTold, RepliesAreTaken}
use Rattle.undo_core.proofs.Heard.{ipmb_by_fields, busy_is_none}

-- ---- frames are read as what they are, and as nothing else

abbrev value_of : Msg → Value
value_of (msg.Request r) = Asks r
value_of (msg.Response r) = Tells r

pub one_value : (on : Bus) (v w : Value) (bytes : List ℕ) → IsFrameOn on v bytes → IsFrameOn on w bytes → v ≡ w
one_value Ipmb (Asks r) (Asks s) bytes f g = ap value_of (message-one (msg.Request r) (msg.Request s) bytes f g)
one_value Ipmb (Asks r) (Tells s) bytes f g = ap value_of (message-one (msg.Request r) (msg.Response s) bytes f g)
one_value Ipmb (Tells r) (Asks s) bytes f g = ap value_of (message-one (msg.Response r) (msg.Request s) bytes f g)
one_value Ipmb (Tells r) (Tells s) bytes f g = ap value_of (message-one (msg.Response r) (msg.Response s) bytes f g)
one_value Ipmb (Asks r) (Part q) bytes f g = absurd g
one_value Ipmb (Tells r) (Part q) bytes f g = absurd g
one_value Ipmb (Part p) w bytes f g = absurd f
one_value Smbus (Part p) (Part q) bytes f g = ap (λ x. Part x) (packet-one p q bytes f g)
one_value Smbus (Part p) (Asks s) bytes f g = absurd g
one_value Smbus (Part p) (Tells s) bytes f g = absurd g
one_value Smbus (Asks r) w bytes f g = absurd f
one_value Smbus (Tells r) w bytes f g = absurd f

alone : (on : Bus) (vs ws : List Value) (frames : List (List ℕ)) → AllZip (IsFrameOn on) vs frames → AllZip (IsFrameOn on) ws frames → ws ≡ vs
alone on [] [] frames a b = refl
alone on [] (w ∷ ws) [] a b = absurd b
alone on [] (w ∷ ws) (f ∷ fs) a b = absurd a
alone on (v ∷ vs) [] [] a b = absurd a
alone on (v ∷ vs) [] (f ∷ fs) a b = absurd b
alone on (v ∷ vs) (w ∷ ws) [] a b = absurd a
alone on (v ∷ vs) (w ∷ ws) (f ∷ fs) a b = λ i. one_value on w v f b.0 a.0 i ∷ alone on vs ws fs a.1 b.1 i

-- one frame on IPMB
one_read : (v : Value) → IsFrameOn Ipmb v (written v) → AreReadAs Ipmb (v ∷ []) (map written (v ∷ []))
one_read v is = record { some = lit< tt; few = lit≤ tt; read = (is, tt); alone = λ others read. alone Ipmb (v ∷ []) others (map written (v ∷ [])) (is, tt) read }

-- the packets of a message
packets_read : (count number : ℕ) (m : Message) (ps : List Packet) → IsEnvelope m.envelope → number + length ps ≤ 4 → EachFrom (IsPiece count) number (map piece ps)
    → All (λ p. p.envelope ≡ m.envelope) ps → AllZip (IsFrameOn Smbus) (map (λ p. Part p) ps) (map written (map (λ p. Part p) ps))
packets_read count number m [] env few pieces same = tt
packets_read count number m (p ∷ ps) env few pieces same =
    let there : p.envelope ≡ m.envelope = All-head (λ x. x.envelope ≡ m.envelope) p ps same in (
      (
        0,
        lit< tt,
        record {
          envelope = subst IsEnvelope (sym there) env;
          sequence = omega (arith, few, pieces.0.numbered);
          some = pieces.0.some;
          fits = pieces.0.fits;
          spelled = refl;
        },
      ),
      packets_read count (number + 1) m ps env (omega (arith, few)) pieces.1 (All-tail (λ x. x.envelope ≡ m.envelope) p ps same),
    )

message_read : (m : Message) → IsEnvelope m.envelope → 0 < length m.body → length m.body ≤ 256
    → AreReadAs Smbus (map (λ p. Part p) (parts_of m)) (map written (map (λ p. Part p) (parts_of m)))
message_read m env some fits =
    let ps = parts_of m in
    let vs = map (λ (p : Packet). Part p) ps in
    let cut = parts_are_cuts.cut m some fits in
    let pieces : length (map piece ps) ≡ length ps = length-map ps piece in
    let n : length (map written vs) ≡ length ps = length-map vs written ∙ length-map ps (λ (p : Packet). Part p) in
    let few : 0 + length ps ≤ 4 = omega (arith, pieces, cut.cut.few) in
    let read = packets_read (length (map piece ps)) 0 m ps env few cut.cut.pieces cut.enveloped in
    record {
      some = omega (arith, n, pieces, cut.cut.some);
      few = omega (arith, n, few);
      read = read;
      alone = λ others is. alone Smbus vs others (map written vs) read is;
    }

-- what holds of a message's envelope holds of each of its packets'
enveloped : (Q : Envelope → Type 0) (e : Envelope) (ps : List Packet) → Q e → All (λ p. p.envelope ≡ e) ps → All (λ p. Q p.envelope) ps
enveloped Q e [] is same = All-nil (λ p. Q p.envelope)
enveloped Q e (p ∷ ps) is same =
    All-cons (λ x. Q x.envelope) p ps (subst Q (sym (All-head (λ x. x.envelope ≡ e) p ps same)) is) (enveloped Q e ps is (All-tail (λ x. x.envelope ≡ e) p ps same))

-- ---- a port that hears packets one after another hears them as parts

wire_typed : (setup : BoardFile) (port : PortState) (before : State) (m : Message) (body : List ℕ) → (hears_typed setup port before m body).port.wire ≡ port.wire
wire_typed setup port before m [] = refl
wire_typed setup port before m (kind ∷ rest) = by (kind == 0) (kind == 1) (control_request_of m.body) (pldm_request_in rest) where
  by : (t u : Bool) (c : Option ControlRequest) (r : Option PldmRequest)
      → (if t then hears_control port before m c else if u then hears_pldm setup port before m r else stays port before).port.wire ≡ port.wire
  by true u None r = refl
  by true u (Some c) r = refl
  by false true c None = refl
  by false true c (Some r) = refl
  by false false c r = refl

wire_message : (setup : BoardFile) (port : PortState) (before : State) (m : Message) → (hears_message setup port before m).port.wire ≡ port.wire
unfolding hears_message
wire_message setup port before m = by m.envelope.tag_owner where
  by : (t : Bool) → (if t then hears_typed setup port before m m.body else stays port before).port.wire ≡ port.wire
  by true = wire_typed setup port before m m.body
  by false = refl

wire_end : (setup : BoardFile) (port : PortState) (before : State) (p : Packet) (ends : Bool)
    → (if ends then hears_message setup port before (message_of port.kept p) else stays port before).port.wire ≡ port.wire
wire_end setup port before p true = wire_message setup port before (message_of port.kept p)
wire_end setup port before p false = refl

wire_part : (setup : BoardFile) (port : PortState) (before : State) (p : Packet) → (hears_part setup port before p).port.wire ≡ port.wire
unfolding hears_part
wire_part setup port before p = by (drop_cause port.eid port.kept p) where
  by : (c : Option DropCause) → (ends_message setup (record port { kept = kept_after port.eid port.kept p }) before p c).port.wire ≡ port.wire
  by (Some cause) = refl
  by None = wire_end setup (record port { kept = kept_after port.eid port.kept p }) before p p.end

abbrev then_each : BoardFile → List Value → StepResult → StepResult
then_each setup vs first = let rest = hears_each setup first.port first.board vs in record { port = rest.port; board = rest.board; sent = first.sent ++ rest.sent }

abbrev with_rest : StepResult → StepResult → StepResult
with_rest first rest = record { port = rest.port; board = rest.board; sent = first.sent ++ rest.sent }

each_part : (setup : BoardFile) (port : PortState) (before : State) (ps : List Packet) → All (λ p. p.envelope.destination ≡ port.wire) ps
    → hears_each setup port before (map (λ p. Part p) ps) ≡ hears_parts setup port before ps
unfolding hears_parts
each_part setup port before [] to = refl
each_part setup port before (p ∷ ps) to =
    let here : (p.envelope.destination == port.wire) ≡ true = eq-eqb p.envelope.destination port.wire (All-head (λ x. x.envelope.destination ≡ port.wire) p ps to) in
    let d = hears_part setup port before p in
    let wire : d.port.wire ≡ port.wire = wire_part setup port before p in
    ap (λ (b : Bool). then_each setup (map (λ x. Part x) ps) (if b then hears_part setup port before p else stays port before)) here
    ∙ ap (with_rest d) (each_part setup d.port d.board ps (subst (λ (w : ℕ). All (λ x. x.envelope.destination ≡ w) ps) (sym wire) (All-tail (λ x. x.envelope.destination ≡ port.wire) p ps to)))

-- ---- a request

no_more : {A : Type 0} (xs : List A) → xs ++ [] ≡ xs
no_more [] = refl
no_more {A} (x ∷ xs) = ap (λ (l : List A). x ∷ l) (no_more xs)

sequence_below : (count : ℕ) → count % 64 < 64
sequence_below count = omega arith

instance_below : (count : ℕ) → count % 32 < 32
instance_below count = omega arith

tag_below : (count : ℕ) → count % 8 < 8
tag_below count = omega arith

abbrev request_on : Names → ℕ → (net_fn lun command : ℕ) → List ℕ → Request
request_on names count net_fn lun command body = record {
  header = record {
    responder = record { address = names.peer_address; lun = lun };
    requester = record { address = names.own_address; lun = 0 };
    net_fn = net_fn;
    sequence = count % 64;
    command = command;
  };
  body = body;
}

abbrev request_message : Names → ℕ → List ℕ → Message
request_message names count body = record {
  envelope = record {
    destination = names.peer_wire;
    source = names.own_wire;
    destination_eid = names.peer_eid;
    source_eid = names.own_eid;
    tag_owner = true;
    tag = count % 8;
  };
  body = body;
}

-- what a port did and sent, where nothing else comes
abbrev alone_deed : StepResult → StepResult
alone_deed d = record { port = d.port; board = d.board; sent = d.sent ++ [] }

on_ipmb : (names : Names) (count from net_fn lun command : ℕ) (body : List ℕ) (setup : BoardFile) (port : PortState) (before : State) → AreNames names
    → CanBeAsked (Ipmi from net_fn lun command body) → IsControllers names count (Ipmi from net_fn lun command body) port
    → IsHeardAsAsked names count (Ipmi from net_fn lun command body) setup port before
unfolding hears_request
on_ipmb names count from net_fn lun command body setup port before are can is =
    let r = request_on names count net_fn lun command body in
    let asked : Asked = Ipmi from net_fn lun command body in
    let here : (names.peer_address == port.wire) ≡ true = eq-eqb names.peer_address port.wire (sym is.place) in
    let heard : hears_each setup port before (Asks r ∷ []) ≡ alone_deed (hears_request setup port before r) =
    ap (λ (b : Bool). alone_deed (if b then hears_request setup port before r else stays port before)) here in
    record {
      read = one_read (Asks r) (record {
        header = record {
          responder = record { address = are.peer_address.0; even = are.peer_address.1; lun = can.2 };
          requester = record { address = are.own_address.0; even = are.own_address.1; lun = lit< tt };
          net_fn = can.0;
          even = can.1;
          sequence = sequence_below count;
        };
        fits = can.3;
        spelled = refl;
      });
      log = ap (λ (d : StepResult). d.port.log) heard;
      board = ap (λ (d : StepResult). d.board) heard;
      sent = λ a said_so. ap (λ (d : StepResult). d.sent) heard ∙ ap (λ (bytes : List ℕ). Tells (response_to r (answered_from Ipmb bytes)) ∷ []) said_so;
    }

request_read : (number kind command : ℕ) (body : List ℕ) → number < 32 → kind < 64 → length body ≤ 252
    → pldm_request_in ((128 + number) ∷ kind ∷ command ∷ body) ≡ Some (record { header = record { instance = number; pldm_type = kind; command = command }; body = body })
request_read number kind command body instance of_type fits =
    let marks : ((128 + number) / 64 == 2) ≡ true = grind (arith, nat_tests) in
    let version : (kind / 64 == 0) ≡ true = grind (arith, nat_tests) in
    let few : nat_le (length body) 252 ≡ true = grind (arith, nat_tests) in
    let back : (128 + number) % 32 ≡ number = omega (arith, instance) in
    (λ i. if marks i && version i && few i
    then Some (record { header = record { instance = (128 + number) % 32; pldm_type = kind; command = command }; body = body }) else None)
    ∙ (λ i. Some (record { header = record { instance = back i; pldm_type = kind; command = command }; body = body }))

slot_there : (port : PortState) (m : Message) → (1 < length (parts_of m) → open_beside (name_of m.envelope) port.kept < 8) → has_slot port m ≡ true
slot_there port m slot = by (nat_le (length (parts_of m)) 1) refl where
  by : (t : Bool) → nat_le (length (parts_of m)) 1 ≡ t → (t || nat_lt (open_beside (name_of m.envelope) port.kept) 8) ≡ true
  by true is = refl
  by false is = lt-ltb (open_beside (name_of m.envelope) port.kept) 8 (slot (let more : 1 < length (parts_of m) = grind (arith, nat_tests) in more))

on_smbus : (names : Names) (count from kind command : ℕ) (body : List ℕ) (setup : BoardFile) (port : PortState) (before : State) → AreNames names
    → CanBeAsked (Pldm from kind command body) → IsControllers names count (Pldm from kind command body) port
    → IsHeardAsAsked names count (Pldm from kind command body) setup port before
unfolding hears_message
on_smbus names count from kind command body setup port before are can is =
    let asked : Asked = Pldm from kind command body in
    let m = request_message names count (bytes_of (count % 32) asked) in
    let ps = parts_of m in
    let some : 0 < length m.body = omega arith in
    let fits : length m.body ≤ 256 = omega (arith, can.1) in
    let cut = parts_are_cuts.cut m some fits in
    let env : IsEnvelope m.envelope = record { destination = are.peer_wire; source = are.own_wire; destination_eid = are.peer_eid; source_eid = are.own_eid; tag = tag_below count } in
    let parts : length (map (λ (p : Packet). Part p) ps) ≡ length ps = length-map ps (λ (p : Packet). Part p) in
    let slot : has_slot port m ≡ true = slot_there port m (λ more. is.slot (omega (arith, parts, more))) in
    let mine : (names.peer_eid == port.eid) ≡ true = eq-eqb names.peer_eid port.eid (sym is.eid) in
    let kept = kept_with_parts port m in
    let r : PldmRequest = record { header = record { instance = count % 32; pldm_type = kind; command = command }; body = body } in
    let heard : hears_each setup port before (map (λ (p : Packet). Part p) ps) ≡ hears_pldm setup kept before m (Some r) =
    each_part setup port before ps (enveloped (λ e. e.destination ≡ port.wire) m.envelope ps (sym is.place) cut.enveloped)
    ∙ parts_are_heard setup port before m some fits
    ∙ (λ i. if (mine i || (names.peer_eid == 0)) && slot i then hears_message setup kept before m else stays kept before)
    ∙ ap (hears_pldm setup kept before m) (request_read (count % 32) kind command body (instance_below count) can.0 can.1) in
    record {
      read = message_read m env some fits;
      log = ap (λ (d : StepResult). d.port.log) heard;
      board = ap (λ (d : StepResult). d.board) heard;
      sent = λ a said_so. ap (λ (d : StepResult). d.sent) heard
          ∙ (λ i. map (λ (p : Packet). Part p) (parts_of (record {
            envelope = record {
              destination = names.own_wire;
              source = is.place i;
              destination_eid = names.own_eid;
              source_eid = is.eid i;
              tag_owner = false;
              tag = count % 8;
            };
            body = said_so i;
          })));
    }

pub requests_are_heard : RequestsAreHeard
requests_are_heard names count (Ipmi from net_fn lun command body) setup port before are can is = on_ipmb names count from net_fn lun command body setup port before are can is
requests_are_heard names count (Pldm from kind command body) setup port before are can is = on_smbus names count from kind command body setup port before are can is

-- ---- the reply to it

module _ (names : Names) where
  -- the bytes of a reply that passes the test unless it says that the port is busy
  takes : (on : Bus) (m : ManagerState (board_plans names)) (part : machine.Part (words_of names)) (reply : List ℕ) (a : Answered)
      → heeded_on (board_plans names) on m.machine.stage ≡ Some part → answers on (open_bytes (board_plans names) on m part) reply ≡ not (is_busy_code a.code)
      → answered_from on reply ≡ a → hears_reply (board_plans names) on reply m ≡ taken_or (board_plans names) m (machine.reply_of (words_of names) a m.machine)
  takes on m part reply a heeds test says =
      ap (tested (board_plans names) on reply m) heeds
      ∙ (λ i. if test i then taken_or (board_plans names) m (machine.reply_of (words_of names) (says i) m.machine) else rests (board_plans names) m)
      ∙ by (is_busy_code a.code) refl where
        by : (busy : Bool) → is_busy_code a.code ≡ busy
            → (if not busy then taken_or (board_plans names) m (machine.reply_of (words_of names) a m.machine) else rests (board_plans names) m)
            ≡ taken_or (board_plans names) m (machine.reply_of (words_of names) a m.machine)
        by true busy = sym (ap (taken_or (board_plans names) m) (busy_is_none names a m.machine.stage m.machine busy))
        by false free = refl

  abbrev with_joined : ManagerState (board_plans names) → Assemblies → ManagerState (board_plans names)
  with_joined m joined = record m { joined = joined }

  -- one packet of the open request's
  part_joins : (m : ManagerState (board_plans names)) (part : machine.Part (words_of names)) (p : Packet) → heeded_on (board_plans names) Smbus m.machine.stage ≡ Some part
      → is_part m.names (open_count (board_plans names) Smbus m) p ≡ true → hears_packet (board_plans names) p m ≡ joins (board_plans names) p m
  unfolding hears_packet
  part_joins m part p heeds mine =
      ap (joins_for (board_plans names) p m) heeds ∙ ap (λ (b : Bool). if b then joins (board_plans names) p m else rests (board_plans names) m) mine

  abbrev after : ManagerState (board_plans names) → Packet → ManagerState (board_plans names)
  after m p = with_joined m (kept_after m.names.own_eid m.joined p)

  waits : (m : ManagerState (board_plans names)) (p : Packet) → IsPieceTaken m.names.own_eid m.joined p → joins (board_plans names) p m ≡ rests (board_plans names) (after m p)
  waits m p is =
      ap (λ (c : Option DropCause). ends_reply (board_plans names) p c (after m p)) is.kept_on
      ∙ ap (λ (b : Bool). if b then hears_reply (board_plans names) Smbus (message_of (after m p).joined p).body (after m p) else rests (board_plans names) (after m p)) is.more

  gives : (m : ManagerState (board_plans names)) (p : Packet) (whole : Message) → MakesWhole m.names.own_eid m.joined p whole
      → joins (board_plans names) p m ≡ hears_reply (board_plans names) Smbus whole.body (after m p)
  gives m p whole h =
      let own_eid = m.names.own_eid in
      let none = whole-passes own_eid m.joined p whole h in
      let ends : p.end ≡ true = (whole-fits own_eid m.joined p whole h).1 in
      let kept_is : kept_after own_eid m.joined p ≡ ended p m.joined =
      ap (λ (c : Option DropCause). after_where c p m.joined) none ∙ ap (λ (t : Bool). cond t (ended p m.joined) (kept_with p m.joined)) ends in
      let made : message_of (kept_after own_eid m.joined p) p ≡ whole = ap (λ (a : Assemblies). message_of a p) kept_is ∙ sym (whole-one own_eid m.joined p whole h) in
      ap (λ (c : Option DropCause). ends_reply (board_plans names) p c (after m p)) none
      ∙ ap (λ (b : Bool). if b then hears_reply (board_plans names) Smbus (message_of (after m p).joined p).body (after m p) else rests (board_plans names) (after m p)) ends
      ∙ ap (λ (x : Message). hears_reply (board_plans names) Smbus x.body (after m p)) made

  abbrev then_hears : List Value → ManagerStepResult (board_plans names) → ManagerDeeds names
  then_hears vs first = let rest = manager_hears_each names vs first.manager in record { manager = rest.manager; sent = sent_list first.sent ++ rest.sent }

  last_one : (d : ManagerStepResult (board_plans names)) → then_hears [] d ≡ deeds_of names d
  last_one d = λ i. record { manager = d.manager; sent = no_more (sent_list d.sent) i }

  -- packets that come back bring their message
  brought : (m : ManagerState (board_plans names)) (part : machine.Part (words_of names)) (ps : List Packet) (whole : Message)
      → heeded_on (board_plans names) Smbus m.machine.stage ≡ Some part → All (λ p. is_part m.names (open_count (board_plans names) Smbus m) p ≡ true) ps
      → ComesBack m.names.own_eid m.joined ps whole
      → manager_hears_each names (map (λ p. Part p) ps) m
      ≡ deeds_of names (hears_reply (board_plans names) Smbus whole.body (with_joined m (kept_after_parts m.names.own_eid m.joined ps)))
  brought m part [] whole heeds mine h = absurd h
  brought m part (p ∷ []) whole heeds mine h =
      ap (then_hears [])
      (part_joins m part p heeds (All-head (λ x. is_part m.names (open_count (board_plans names) Smbus m) x ≡ true) p [] mine) ∙ gives m p whole h)
      ∙ last_one (hears_reply (board_plans names) Smbus whole.body (after m p))
  brought m part (p ∷ q ∷ rest) whole heeds mine h =
      ap (then_hears (map (λ x. Part x) (q ∷ rest)))
      (part_joins m part p heeds (All-head (λ x. is_part m.names (open_count (board_plans names) Smbus m) x ≡ true) p (q ∷ rest) mine) ∙ waits m p h.0)
      ∙ brought (after m p) part (q ∷ rest) whole heeds (All-tail (λ x. is_part m.names (open_count (board_plans names) Smbus m) x ≡ true) p (q ∷ rest) mine) h.1

-- the response to a request passes the test
response_passes : (names : Names) (count from net_fn lun command : ℕ) (body : List ℕ) (a : Answered) → lun < 4
    → answers Ipmb (bytes_of (count % 64) (Ipmi from net_fn lun command body)) (response_bytes (response_to (request_on names count net_fn lun command body) a))
    ≡ not (is_busy_code a.code)
response_passes names count from net_fn lun command body a below =
    ipmb_by_fields net_fn lun command (count % 64) body (response_to (request_on names count net_fn lun command body) a) below (lit< tt) below from
    ∙ (λ i. (eq-eqb net_fn net_fn refl i && eq-eqb (count % 64) (count % 64) refl i && eq-eqb command command refl i) && not (is_busy_code a.code))

-- and so does the reply on SMBus
reply_passes : (number from kind command : ℕ) (body : List ℕ) (a : Answered) → number < 32
    → answers Smbus (bytes_of number (Pldm from kind command body)) (reply_to Smbus (bytes_of number (Pldm from kind command body)) a) ≡ not (is_busy_code a.code)
reply_passes number from kind command body a below =
    let clear : ((128 + number) % 32 / 64 == 0) ≡ true = eq-eqb _ _ (let z : (128 + number) % 32 / 64 ≡ 0 = omega (arith, below) in z) in
    let same : ((128 + number) % 32 % 32 == (128 + number) % 32) ≡ true = eq-eqb _ _ (let s : (128 + number) % 32 % 32 ≡ (128 + number) % 32 = omega (arith, below) in s) in
    λ i. ((true && clear i) && same i) && ((eq-eqb kind kind refl i && eq-eqb command command refl i) && not (is_busy_code a.code))

module _ (names : Names) (count from : ℕ) (a : Answered) (at : machine.Machine (words_of names)) (listed : Option Names) (joined : Assemblies) (part : machine.Part (words_of names)) (are : AreNames names) where
  abbrev now : ManagerState (board_plans names)
  now = record { machine = at; names = names; listed = listed; joined = joined }

  told_on_ipmb : (net_fn lun command : ℕ) (body : List ℕ) → let asked : Asked = Ipmi from net_fn lun command body in
      CanBeAsked asked → CanBeTold Ipmb a → heeded_on (board_plans names) Ipmb at.stage ≡ Some part → part.asked ≡ asked → open_count (board_plans names) Ipmb now ≡ count
      → IsTakenAsTold names count asked a now
  unfolding hears_response
  told_on_ipmb net_fn lun command body can told heeds is counted =
      let asked : Asked = Ipmi from net_fn lun command body in
      let r = response_to (request_on names count net_fn lun command body) a in
      let test : answers Ipmb (open_bytes (board_plans names) Ipmb now part) (response_bytes r) ≡ not (is_busy_code a.code) =
      (λ i. answers Ipmb (bytes_of (number_of Ipmb (counted i)) (is i)) (response_bytes r)) ∙ response_passes names count from net_fn lun command body a can.2 in
      record {
        read = one_read (Tells r) (record {
          header = record {
            responder = record { address = are.peer_address.0; even = are.peer_address.1; lun = can.2 };
            requester = record { address = are.own_address.0; even = are.own_address.1; lun = lit< tt };
            net_fn = can.0;
            even = can.1;
            sequence = sequence_below count;
          };
          fits = told;
          spelled = refl;
        });
        joined = joined;
        taken = ap (then_hears names []) (
            (λ i. if eq-eqb names.own_address names.own_address refl i && eq-eqb names.peer_address names.peer_address refl i
            then hears_reply (board_plans names) Ipmb (response_bytes r) now else rests (board_plans names) now)
            ∙ takes names Ipmb now part (response_bytes r) a heeds test refl)
            ∙ last_one names (taken_or (board_plans names) now (machine.reply_of (words_of names) a at));
      }

  told_on_smbus : (kind command : ℕ) (body : List ℕ) → let asked : Asked = Pldm from kind command body in
      CanBeAsked asked → CanBeTold Smbus a → heeded_on (board_plans names) Smbus at.stage ≡ Some part → part.asked ≡ asked → open_count (board_plans names) Smbus now ≡ count
      → (1 < length (values_told names count asked a) → open_beside (name_of (reply_message names count []).envelope) joined < 8)
      → IsTakenAsTold names count asked a now
  told_on_smbus kind command body can told heeds is counted slot =
      let asked : Asked = Pldm from kind command body in
      let bytes = bytes_of (count % 32) asked in
      let m = reply_message names count (reply_to Smbus bytes a) in
      let ps = parts_of m in
      let some : 0 < length m.body = omega arith in
      let fits : length m.body ≤ 256 = omega (arith, told) in
      let cut = parts_are_cuts.cut m some fits in
      let env : IsEnvelope m.envelope = record { destination = are.own_wire; source = are.peer_wire; destination_eid = are.own_eid; source_eid = are.peer_eid; tag = tag_below count } in
      let parts : length (map (λ (p : Packet). Part p) ps) ≡ length ps = length-map ps (λ (p : Packet). Part p) in
      let ours : All (λ p. is_ours names.own_eid p ≡ true) ps =
      enveloped (λ e. (e.destination_eid == names.own_eid || e.destination_eid == 0) ≡ true) m.envelope ps
      (ap (λ (b : Bool). b || (names.own_eid == 0)) (eq-eqb names.own_eid names.own_eid refl)) cut.enveloped in
      let back = cut-comes_back names.own_eid joined m ps cut ours (λ more. slot (omega (arith, parts, more))) in
      let tag : (count % 8 == open_count (board_plans names) Smbus now % 8) ≡ true = eq-eqb _ _ (λ i. sym counted i % 8) in
      let mine : All (λ p. is_part names (open_count (board_plans names) Smbus now) p ≡ true) ps =
      enveloped (λ e. ((e.destination == names.own_wire && e.source == names.peer_wire)
      && (e.source_eid == names.peer_eid && (not e.tag_owner && e.tag == open_count (board_plans names) Smbus now % 8))) ≡ true) m.envelope ps
      (λ i. (eq-eqb names.own_wire names.own_wire refl i && eq-eqb names.peer_wire names.peer_wire refl i) && (eq-eqb names.peer_eid names.peer_eid refl i && (true && tag i))) cut.enveloped in
      let kept = kept_after_parts names.own_eid joined ps in
      let test : answers Smbus (open_bytes (board_plans names) Smbus (with_joined names now kept) part) m.body ≡ not (is_busy_code a.code) =
      (λ i. answers Smbus (bytes_of (number_of Smbus (counted i)) (is i)) m.body) ∙ reply_passes (count % 32) from kind command body a (instance_below count) in
      record {
        read = message_read m env some fits;
        joined = kept;
        taken = brought names now part ps m heeds mine back
            ∙ ap (deeds_of names) (takes names Smbus (with_joined names now kept) part m.body a heeds test refl);
      }

told : (names : Names) (count : ℕ) (asked : Asked) (a : Answered) (m : ManagerState (board_plans names)) → AreNames names → CanBeAsked asked → CanBeTold (bus_of asked) a
    → IsAwaiting names count asked a m → IsTakenAsTold names count asked a (record { machine = m.machine; names = names; listed = m.listed; joined = m.joined })
told names count (Ipmi from net_fn lun command body) a m are can fits w =
    told_on_ipmb names count from a m.machine m.listed m.joined w.part are net_fn lun command body can fits w.heeded w.is w.counted
told names count (Pldm from kind command body) a m are can fits w =
    told_on_smbus names count from a m.machine m.listed m.joined w.part are kind command body can fits w.heeded w.is w.counted w.slot

pub replies_are_taken : RepliesAreTaken
replies_are_taken names count asked a m are can fits w =
    subst (λ (n : Names). IsTakenAsTold names count asked a (record { machine = m.machine; names = n; listed = m.listed; joined = m.joined })) (sym w.named) (told names count asked a m are can fits w)
