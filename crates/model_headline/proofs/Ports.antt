-- What a port does with what comes is what the model's does.
use Rattle.std.proofs.Common.{◌≡◌, ℕ, ◌+◌, ◌*◌, ◌<◌, ◌/◌, ◌%◌, Bool, true, false, ◌&&◌, cond, List, [], ◌∷◌, ◌++◌, length, map, Option, Some, None, refl, sym, ◌∙◌, ap, subst, arith}
use Rattle.std.specs.Prelude.{◌==◌, nat_le}
use Rattle.std.specs.Option.{option_map}
use Rattle.std.proofs.lemmas.List.{map-append}
use Rattle.two_wire.specs.declared.Bus.{Bus}
use Rattle.two_wire.specs.declared.Bus.TheVariants.{Ipmb, Smbus}
use Rattle.ipmb_frame.specs.declared.message.Request.{Request}
use Rattle.mctp_net.specs.declared.packet.Envelope.{Envelope}
use Rattle.mctp_net.specs.declared.packet.Packet.{Packet}
use Rattle.mctp_net.specs.declared.taken.DropCause.{DropCause}
use Rattle.mctp_net.specs.Assembly.{Assemblies, drop_cause}
use Rattle.mctp_net.specs.Control.{Request as ControlRequest, request_of as control_in, reply_to as control_reply, eid_after}
use Rattle.pldm_base.specs.declared.message.PldmRequest.{PldmRequest}
use Rattle.pldm_base.specs.Message.{request_in as pldm_in, reply_bytes as pldm_reply}
use Rattle.record_base.specs.declared.message.Answered.{Answered}
use Rattle.record_base.specs.declared.message.Asked.TheVariants.{Ipmi, Pldm}
use Rattle.cfg_records.specs.declared.board_file.BoardFile.{BoardFile}
use Rattle.bmc_board.specs.State.{State}
use Rattle.bmc_board.specs.Answer.{answer_of}
use Rattle.undo_plans.specs.declared.names.Names.{Names}
use Rattle.model_bus.specs.Request as bus
use Rattle.model_bus.specs.Carried as bus_rule
use Rattle.bmc_core.specs.Wires.{asked_from, answered_from}
use Rattle.bmc_core.specs.Bytes.{said, response_to}
use Rattle.bmc_core.specs.Values as values
use Rattle.model_lab.specs.ManagerSteps.{addresses}
use Rattle.bmc_core.specs.PortSteps as port
use Rattle.model_headline.specs.Each.{Each}
use Rattle.model_headline.proofs.Each.{each_append}
use Rattle.model_headline.specs.Frames.{Value, Asks, Tells, Part, envelope, packets_of, is_taken, waits_after, whole}
use Rattle.model_headline.specs.Manager.{own_on}
use Rattle.model_headline.specs.Lab.{Heard, Entry, Port, Outcome, StepResult, is_above, repeated, requesters, is_ninth, busy_on, turn_where, turn, stays, heard_in, hears_request, hears_control, pldm_heard, hears_pldm, hears_typed, hears_packet, hears_packets, hears, Way, ToPort, ToManager, ToOthers}
use Rattle.model_headline.specs.Claim.{ours}
use Rattle.model_headline.proofs.Packets.{Agrees, IsKept, is_kept}
use Rattle.model_headline.proofs.Repeats.{repeats_alike, busy_alike}
use Rattle.model_headline.proofs.Sends.{sent_parts}
use Rattle.model_headline.specs.Seen.{seen_as, bare, seen_log, spell, seen_value, seen_port, seen_deed}
use Rattle.model_headline.proofs.Holds.{IsOrderly, Suits, Reads}

module _ (names : Names) (setup : BoardFile) where
  -- ---- one request

  -- the model's turn is this one
  pub record SameTurn (on : Bus) (r : Heard) (o : port.Turn) (t : Outcome) : Type 0 where
    pub logged : o.log ≡ seen_log (spell on) t.log
    pub left : o.left ≡ t.board
    pub told : said on (bare r) o.replied ≡ spell on r.bytes t.answer

  module _ (on : Bus) (r : Heard) (log : List Entry) (before : State) where
    abbrev given : Answered × State
    given = answer_of setup before r.asked

    abbrev kept_now : bus.Kept
    kept_now = record { request = bare r; reply = spell on r.bytes given.0 }

    abbrev turn_by : bus_rule.Outcome → port.Turn
    turn_by o = record { outcome = o; log = bus_rule.log_after o kept_now (seen_log (spell on) log); left = port.left_by o given.1 before; replied = bus_rule.reply_after o kept_now }

    by_rule : (o : Option Answered) (ninth : Bool) → SameTurn on r (turn_by (bus_rule.outcome_of (option_map (spell on r.bytes) o) ninth)) (turn_where o ninth on r (ours setup) log before)
    by_rule (Some a) ninth = record { logged = refl; left = refl; told = refl }
    by_rule None true = record { logged = refl; left = refl; told = busy on }
      where
        busy : (on : Bus) → said on (bare r) None ≡ spell on r.bytes (record { code = busy_on on; body = [] })
        busy Ipmb = refl
        busy Smbus = refl
    by_rule None false = record { logged = refl; left = refl; told = refl }

    pub same_turn : SameTurn on r (port.turn (is_above on) (bare r) (port.spelled on (bare r)) setup r.asked (seen_log (spell on) log) before) (turn on r (ours setup) log before)
    unfolding port.turn turn
    same_turn =
        let e : bus_rule.outcome (is_above on) (bare r) (seen_log (spell on) log) ≡ bus_rule.outcome_of (option_map (spell on r.bytes) (repeated on r [] log)) (is_ninth r.requester (requesters log)) =
        λ i. bus_rule.outcome_of (repeats_alike (spell on) on r [] log i) (busy_alike (spell on) r.requester log i) in
        subst (λ (o : bus_rule.Outcome). SameTurn on r (turn_by o) (turn_where (repeated on r [] log) (is_ninth r.requester (requesters log)) on r (ours setup) log before)) (sym e)
        (by_rule (repeated on r [] log) (is_ninth r.requester (requesters log)))

    reads_where : (o : Option Answered) (ninth : Bool) → Each (Reads names on) log → (r.requester ≡ own_on on names → asked_from (addresses names) on r.bytes ≡ r.asked) → Each (Reads names on) (turn_where o ninth on r (ours setup) log before).log
    reads_where (Some a) ninth all is = all
    reads_where None true all is = all
    reads_where None false all is = (is, all)

    pub still_reads : Each (Reads names on) log → (r.requester ≡ own_on on names → asked_from (addresses names) on r.bytes ≡ r.asked) → Each (Reads names on) (turn on r (ours setup) log before).log
    unfolding turn
    still_reads all is = reads_where (repeated on r [] log) (is_ninth r.requester (requesters log)) all is

  -- ---- what comes

  -- the model's deed is this one, and what holds of the port still holds
  pub record Does (on : Bus) (way : Way) (d : port.StepResult) (t : StepResult) : Type 0 where
    pub made : List ℕ
    pub is : d ≡ seen_deed on made t
    pub orderly : IsOrderly t.port.waits
    pub reads : Each (Reads names on) t.port.log
    pub sent : Each (Suits names on way) t.sent

  stays_so : (on : Bus) (way : Way) (made : List ℕ) (p : Port) (before : State) → IsOrderly p.waits → Each (Reads names on) p.log → Does on way (port.stays (seen_port on made p) before) (stays p before)
  stays_so on way made p before orderly reads = record { made = made; is = refl; orderly = orderly; reads = reads; sent = tt }

  -- ---- IPMB

  ipmb_reads : (r : Request) → (r.header.requester.address ≡ names.own_address → r.header.responder.lun < 4)
      → (heard_in r).requester ≡ own_on Ipmb names → asked_from (addresses names) Ipmb (heard_in r).bytes ≡ (heard_in r).asked
  ipmb_reads r low e =
      let below : r.header.responder.lun < 4 = low e in
      let fn : (4 * r.header.net_fn + r.header.responder.lun) / 4 ≡ r.header.net_fn = omega (arith, below) in
      let lun : (4 * r.header.net_fn + r.header.responder.lun) % 4 ≡ r.header.responder.lun = omega (arith, below) in
      λ i. Ipmi (sym e i) (fn i) (lun i) r.header.command r.body

  request_does : (way : Way) (made : List ℕ) (p : Port) (before : State) (r : Request) → IsOrderly p.waits → Each (Reads names Ipmb) p.log
      → (r.header.requester.address ≡ names.own_address → r.header.responder.lun < 4) → ((code : ℕ) (body : List ℕ) → Suits names Ipmb way (Tells (record { header = r.header; code = code; body = body })))
      → Does Ipmb way (port.hears_request setup (seen_port Ipmb made p) before r) (hears_request (ours setup) p before r)
  unfolding port.hears_request
  request_does way made p before r orderly reads low suits =
      let same = same_turn Ipmb (heard_in r) p.log before in
      let t = turn Ipmb (heard_in r) (ours setup) p.log before in
      record {
        made = made;
        is = λ i. record {
          port = record { wire = p.wire; eid = p.eid; kept = seen_as p.waits made; log = same.logged i };
          board = same.left i;
          sent = values.Tells (response_to r (answered_from Ipmb (same.told i))) ∷ [];
        };
        orderly = orderly;
        reads = still_reads Ipmb (heard_in r) p.log before reads (ipmb_reads r low);
        sent = (suits t.answer.code t.answer.body, tt);
      }

  -- ---- SMBus

  pub parts_suit : (way : Way) (ps : List Packet) → Each (Suits names Smbus way) (map Part ps)
  parts_suit way [] = tt
  parts_suit way (p ∷ ps) = (suits way, parts_suit way ps)
    where
      suits : (way : Way) → Suits names Smbus way (Part p)
      suits ToPort = tt
      suits ToManager = tt
      suits ToOthers = tt

  module _ (way : Way) (made : List ℕ) (p : Port) (before : State) (e : Envelope) (orderly : IsOrderly p.waits) (reads : Each (Reads names Smbus) p.log) where
    control_does : (body : List ℕ) (o : Option ControlRequest) → Does Smbus way (port.hears_control (seen_port Smbus made p) before (record { envelope = e; body = body }) o) (hears_control p before e (option_map (λ r. (eid_after p.eid r.command r.content, control_reply p.eid r)) o))
    control_does body None = stays_so Smbus way made p before orderly reads
    control_does body (Some r) =
        let next : Port = record p { eid = eid_after p.eid r.command r.content } in
        record {
          made = made;
          is = ap (λ (vs : List values.Value). let d : port.StepResult = record { port = seen_port Smbus made next; board = before; sent = vs } in d) (sent_parts (envelope e.source p.wire e.source_eid next.eid false e.tag) (control_reply p.eid r) (control_reply p.eid r) refl);
          orderly = orderly;
          reads = reads;
          sent = parts_suit way (packets_of (envelope e.source p.wire e.source_eid next.eid false e.tag) (control_reply p.eid r));
        }

    -- an instance is below 32
    abbrev Small : Option PldmRequest → Type 0
    Small None = Unit {0}
    Small (Some r) = r.header.instance < 32

    small_in : (rest : List ℕ) → Small (pldm_in rest)
    small_in [] = tt
    small_in (first ∷ []) = tt
    small_in (first ∷ second ∷ []) = tt
    small_in (first ∷ second ∷ command ∷ body) = at (first / 64 == 2 && second / 64 == 0 && nat_le (length body) 252)
      where
        at : (b : Bool) → Small (let none : Option PldmRequest = None in cond b (Some (record { header = record { instance = first % 32; pldm_type = second; command = command }; body = body })) none)
        at true = omega arith
        at false = tt

    pldm_does : (body : List ℕ) (o : Option PldmRequest) → Small o → Does Smbus way (port.hears_pldm setup (seen_port Smbus made p) before (record { envelope = e; body = body }) o) (hears_pldm (ours setup) p before e o)
    pldm_does body None small = stays_so Smbus way made p before orderly reads
    pldm_does body (Some r) small =
        let h = pldm_heard e.source_eid r in
        let same = same_turn Smbus h p.log before in
        let t = turn Smbus h (ours setup) p.log before in
        let number : (128 * 1 + 32 * 0 + r.header.instance) % 32 ≡ 128 * 0 + 32 * 0 + r.header.instance = omega (arith, small) in
        let spelled : spell Smbus h.bytes t.answer ≡ 1 ∷ pldm_reply (record { header = r.header; code = t.answer.code; body = t.answer.body }) =
        ap (λ n. 1 ∷ n ∷ r.header.pldm_type ∷ r.header.command ∷ t.answer.code ∷ t.answer.body) number in
        let to = envelope e.source p.wire e.source_eid p.eid false e.tag in
        let parts = sent_parts to (said Smbus (bare h) (port.pldm_turn setup (seen_port Smbus made p) before e.source_eid r).replied) (1 ∷ pldm_reply (record { header = r.header; code = t.answer.code; body = t.answer.body })) (same.told ∙ spelled) in
        record {
          made = made;
          is = λ i. record {
            port = record { wire = p.wire; eid = p.eid; kept = seen_as p.waits made; log = same.logged i };
            board = same.left i;
            sent = parts i;
          };
          orderly = orderly;
          reads = still_reads Smbus h p.log before reads (λ is i. Pldm (sym is i) r.header.pldm_type r.header.command r.body);
          sent = parts_suit way (packets_of to (1 ∷ pldm_reply (record { header = r.header; code = t.answer.code; body = t.answer.body })));
        }

    typed_does : (body : List ℕ) → Does Smbus way (port.hears_typed setup (seen_port Smbus made p) before (record { envelope = e; body = body }) body) (hears_typed (ours setup) p before e body)
    typed_does [] = stays_so Smbus way made p before orderly reads
    typed_does (kind ∷ rest) = at (kind == 0) (kind == 1)
      where
        at : (zero one : Bool)
            → Does Smbus way (cond zero (port.hears_control (seen_port Smbus made p) before (record { envelope = e; body = kind ∷ rest }) (control_in (kind ∷ rest))) (cond one (port.hears_pldm setup (seen_port Smbus made p) before (record { envelope = e; body = kind ∷ rest }) (pldm_in rest)) (port.stays (seen_port Smbus made p) before)))
            (cond zero (hears_control p before e ((ours setup).control p.eid (kind ∷ rest))) (cond one (hears_pldm (ours setup) p before e (pldm_in rest)) (stays p before)))
        at true one = control_does (kind ∷ rest) (control_in (kind ∷ rest))
        at false true = pldm_does (kind ∷ rest) (pldm_in rest) (small_in rest)
        at false false = stays_so Smbus way made p before orderly reads

  -- ---- packets

  module _ (way : Way) (made : List ℕ) (p : Port) (before : State) (q : Packet) (orderly : IsOrderly p.waits) (reads : Each (Reads names Smbus) p.log) where
    abbrev kept : IsKept q p.waits made orderly p.eid
    kept = is_kept q p.waits made orderly p.eid

    abbrev next : Port
    next = record p { waits = waits_after p.eid q p.waits }

    -- what the packet does
    abbrev does_then : Bool → Bool → StepResult
    does_then ends owner = cond (ends && owner) (hears_typed (ours setup) next before q.envelope (whole q p.waits)) (stays next before)

    by_owner : (body : List ℕ) → body ≡ whole q p.waits → (owner : Bool)
        → Does Smbus way (cond owner (port.hears_typed setup (seen_port Smbus kept.made_then next) before (record { envelope = q.envelope; body = body }) body) (port.stays (seen_port Smbus kept.made_then next) before)) (does_then true owner)
    by_owner body e true =
        subst (λ (bytes : List ℕ). Does Smbus way (port.hears_typed setup (seen_port Smbus kept.made_then next) before (record { envelope = q.envelope; body = bytes }) bytes) (does_then true true)) (sym e)
        (typed_does way kept.made_then next before q.envelope kept.orderly_then reads (whole q p.waits))
    by_owner body e false = stays_so Smbus way kept.made_then next before kept.orderly_then reads

    by_end : (ends : Bool) → q.end ≡ ends → is_taken p.eid q p.waits ≡ true
        → Does Smbus way (cond ends (port.hears_message setup (seen_port Smbus kept.made_then next) before (record { envelope = q.envelope; body = cond q.start q.payload kept.made_then })) (port.stays (seen_port Smbus kept.made_then next) before)) (does_then ends q.envelope.tag_owner)
    unfolding port.hears_message
    by_end true e sure = by_owner (cond q.start q.payload kept.made_then) (kept.ends sure e) q.envelope.tag_owner
    by_end false e sure = stays_so Smbus way kept.made_then next before kept.orderly_then reads

    by_cause : (cause : Option DropCause) (yes : Bool) → Agrees q p.waits made orderly yes cause → is_taken p.eid q p.waits ≡ yes
        → Does Smbus way (port.ends_message setup (seen_port Smbus kept.made_then next) before q cause) (cond (yes && (q.end && q.envelope.tag_owner)) (hears_typed (ours setup) next before q.envelope (whole q p.waits)) (stays next before))
    by_cause (Some cause) true agrees e = absurd agrees
    by_cause (Some cause) false agrees e = stays_so Smbus way kept.made_then next before kept.orderly_then reads
    by_cause None true agrees e = by_end q.end refl e
    by_cause None false agrees e = absurd agrees

    pub packet_does : Does Smbus way (port.hears_part setup (seen_port Smbus made p) before q) (hears_packet (ours setup) p before q)
    unfolding port.hears_part hears_packet
    packet_does =
        subst (λ (a : Assemblies). Does Smbus way (port.ends_message setup (record (seen_port Smbus made p) { kept = a }) before q (drop_cause p.eid (seen_as p.waits made) q)) (hears_packet (ours setup) p before q)) (sym kept.is)
        (by_cause (drop_cause p.eid (seen_as p.waits made) q) (is_taken p.eid q p.waits) kept.agrees refl)

  pub packets_do : (way : Way) (qs : List Packet) (made : List ℕ) (p : Port) (before : State) → IsOrderly p.waits → Each (Reads names Smbus) p.log
      → Does Smbus way (port.hears_parts setup (seen_port Smbus made p) before qs) (hears_packets (ours setup) p before qs)
  unfolding port.hears_parts
  packets_do way [] made p before orderly reads = stays_so Smbus way made p before orderly reads
  packets_do way (q ∷ qs) made p before orderly reads =
      let one = packet_does way made p before q orderly reads in
      let first = hears_packet (ours setup) p before q in
      let more = packets_do way qs one.made first.port first.board one.orderly one.reads in
      let rest = hears_packets (ours setup) first.port first.board qs in
      record {
        made = more.made;
        is = ap (λ (d : port.StepResult). let r = port.hears_parts setup d.port d.board qs in let both : port.StepResult = record { port = r.port; board = r.board; sent = d.sent ++ r.sent } in both) one.is
            ∙ ap (λ (r : port.StepResult). let both : port.StepResult = record { port = r.port; board = r.board; sent = map seen_value first.sent ++ r.sent } in both) more.is
            ∙ ap (λ (vs : List values.Value). let both : port.StepResult = record { port = seen_port Smbus more.made rest.port; board = rest.board; sent = vs } in both) (sym (map-append seen_value first.sent rest.sent));
        orderly = more.orderly;
        reads = more.reads;
        sent = each_append (Suits names Smbus way) first.sent rest.sent one.sent more.sent;
      }

  -- ---- any frame

  -- what may come to a port on a bus, where the frames that it sends go this way
  abbrev pub MayCome : Bus → Way → Value → Type 0
  MayCome Ipmb way (Asks r) = (r.header.requester.address ≡ names.own_address → r.header.responder.lun < 4) × ((code : ℕ) (body : List ℕ) → Suits names Ipmb way (Tells (record { header = r.header; code = code; body = body })))
  MayCome Smbus way (Part p) = Unit {0}
  MayCome on way value = ⊥

  pub does : (on : Bus) (way : Way) (made : List ℕ) (p : Port) (before : State) (v : Value) → IsOrderly p.waits → Each (Reads names on) p.log → MayCome on way v
      → Does on way (port.hears setup (seen_port on made p) before (seen_value v)) (hears (ours setup) p before v)
  does Ipmb way made p before (Asks r) orderly reads may = at (r.header.responder.address == p.wire)
    where
      at : (b : Bool) → Does Ipmb way (cond b (port.hears_request setup (seen_port Ipmb made p) before r) (port.stays (seen_port Ipmb made p) before)) (cond b (hears_request (ours setup) p before r) (stays p before))
      at true = request_does way made p before r orderly reads may.0 may.1
      at false = stays_so Ipmb way made p before orderly reads
  does Ipmb way made p before (Tells r) orderly reads may = absurd may
  does Ipmb way made p before (Part q) orderly reads may = absurd may
  does Smbus way made p before (Asks r) orderly reads may = absurd may
  does Smbus way made p before (Tells r) orderly reads may = absurd may
  does Smbus way made p before (Part q) orderly reads may = at (q.envelope.destination == p.wire)
    where
      at : (b : Bool) → Does Smbus way (cond b (port.hears_part setup (seen_port Smbus made p) before q) (port.stays (seen_port Smbus made p) before)) (cond b (hears_packet (ours setup) p before q) (stays p before))
      at true = packet_does way made p before q orderly reads
      at false = stays_so Smbus way made p before orderly reads
